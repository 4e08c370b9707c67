-- FIPS 197, step by step on the values that it prints, computed from the definitions: the key schedules of appendix A as far as their rules differ, and of
-- appendix B the first round and the last three.
use mathlib.Core.Path.{◌≡◌, refl}
use mathlib.Core.List.{List, [], ◌∷◌, ◌++◌}
use Prim.Native.Nat.{ℕ}
use Rattle.standards.specs.Fips197.{State, from_block, to_block, sub_bytes, inv_sub_bytes, shift_rows, inv_shift_rows, mix_columns, inv_mix_columns, add_round_key, encipher, decipher, rcon, key_expansion}
use Rattle.examples_shared.proofs.Hex.{hex}
use Rattle.examples_shared.proofs.Opened.{AES-opened}

-- ---- Table 5: the round constants

constants : rcon 0 ∷ rcon 1 ∷ rcon 2 ∷ rcon 3 ∷ rcon 4 ∷ rcon 5 ∷ rcon 6 ∷ rcon 7 ∷ rcon 8 ∷ rcon 9 ∷ [] ≡ hex 10 0x01020408102040801b36
unfolding AES-opened
constants = refl

-- ---- Appendix A: the key, and the words behind it that the first two, three and four rounds take

A1 : key_expansion 4 2 (hex 16 0x2b7e151628aed2a6abf7158809cf4f3c)
    ≡ hex 16 0x2b7e151628aed2a6abf7158809cf4f3c ++ hex 32 0xa0fafe1788542cb123a339392a6c7605f2c295f27a96b9435935807a7359f67f
unfolding AES-opened
A1 = refl

A2 : key_expansion 6 3 (hex 24 0x8e73b0f7da0e6452c810f32b809079e562f8ead2522c6b7b)
    ≡ hex 24 0x8e73b0f7da0e6452c810f32b809079e562f8ead2522c6b7b ++ hex 40 0xfe0c91f72402f5a5ec12068e6c827f6b0e7a95b95c56fec24db7b4bd69b5411885a74796e92538fd
unfolding AES-opened
A2 = refl

A3 : key_expansion 8 4 (hex 32 0x603deb1015ca71be2b73aef0857d77811f352c073b6108d72d9810a30914dff4)
    ≡ hex 32 0x603deb1015ca71be2b73aef0857d77811f352c073b6108d72d9810a30914dff4 ++ hex 48 0x9ba354118e6925afa51a8b5f2067fcdea8b09c1a93d194cdbe49846eb75d5b9ad59aecb85bf3c917fee94248de8ebe96
unfolding AES-opened
A3 = refl

-- ---- Appendix B, round 1: each step, and what undoes it

on : (State → State) → List ℕ → List ℕ
on step b = to_block (step (from_block b))

start : List ℕ
start = hex 16 0x193de3bea0f4e22b9ac68d2ae9f84808

s_box : List ℕ
s_box = hex 16 0xd42711aee0bf98f1b8b45de51e415230

s_row : List ℕ
s_row = hex 16 0xd4bf5d30e0b452aeb84111f11e2798e5

m_col : List ℕ
m_col = hex 16 0x046681e5e0cb199a48f8d37a2806264c

start_of : on (add_round_key (hex 16 0x2b7e151628aed2a6abf7158809cf4f3c) 0) (hex 16 0x3243f6a8885a308d313198a2e0370734) ≡ start
unfolding on start AES-opened
start_of = refl

substituted : (on sub_bytes start ≡ s_box) × (on inv_sub_bytes s_box ≡ start)
unfolding on start s_box AES-opened
substituted = (refl, refl)

shifted : (on shift_rows s_box ≡ s_row) × (on inv_shift_rows s_row ≡ s_box)
unfolding on s_box s_row AES-opened
shifted = (refl, refl)

mixed : (on mix_columns s_row ≡ m_col) × (on inv_mix_columns m_col ≡ s_row)
unfolding on s_row m_col AES-opened
mixed = (refl, refl)

-- ---- Appendix B, rounds 8 to 10, which are a cipher of three rounds on what round 7 has mixed

last_keys : List ℕ
last_keys =
    hex 16 0x4e54f70e5f5fc9f384a64fb24ea6dc4f
    ++ hex 16 0xead27321b58dbad2312bf5607f8d292f
    ++ hex 16 0xac7766f319fadc2128d12941575c006e
    ++ hex 16 0xd014f9a8c9ee2589e13f0cc8b6630ca6

mixed_7 : List ℕ
mixed_7 = hex 16 0x1415b5bf461615ec274656d7342ad843

output : List ℕ
output = hex 16 0x3925841d02dc09fbdc118597196a0b32

last_rounds : (encipher 3 last_keys mixed_7 ≡ output) × (decipher 3 last_keys output ≡ mixed_7)
unfolding last_keys mixed_7 output AES-opened
last_rounds = (refl, refl)
