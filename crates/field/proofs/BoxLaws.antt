-- The S-box and its inverse undo each other: the inverse in the field undoes itself, and the affine maps, by computed tests, each other.
-- Assumes nothing.
use mathlib.Core.Path.{◌≡◌, ap, ◌∙◌}
use Prim.Native.Nat.{ℕ, ◌<◌}
use Rattle.standards.specs.Fips197.{inverse, affine, sbox, inv_affine, inv_sbox}
use Rattle.block.proofs.Tests.{equal, less}
use Rattle.field.proofs.InverseLaws.{inverse_below, inverse_twice}

affine_below : (b : ℕ) → b < 256 → affine b < 256
unfolding affine
affine_below = less affine 256 256 tt

inv_affine_below : (b : ℕ) → b < 256 → inv_affine b < 256
unfolding inv_affine
inv_affine_below = less inv_affine 256 256 tt

unaffine : (b : ℕ) → b < 256 → inv_affine (affine b) ≡ b
unfolding affine inv_affine
unaffine = equal (λ b. inv_affine (affine b)) (λ b. b) 256 tt

reaffine : (b : ℕ) → b < 256 → affine (inv_affine b) ≡ b
unfolding affine inv_affine
reaffine = equal (λ b. affine (inv_affine b)) (λ b. b) 256 tt

pub sbox_below : (b : ℕ) → b < 256 → sbox b < 256
unfolding sbox
sbox_below b h = affine_below (inverse b) (inverse_below b h)

pub inv_sbox_below : (b : ℕ) → b < 256 → inv_sbox b < 256
unfolding inv_sbox
inv_sbox_below b h = inverse_below (inv_affine b) (inv_affine_below b h)

pub inv_sbox_sbox : (b : ℕ) → b < 256 → inv_sbox (sbox b) ≡ b
unfolding sbox inv_sbox
inv_sbox_sbox b h = ap inverse (unaffine (inverse b) (inverse_below b h)) ∙ inverse_twice b h

pub sbox_inv_sbox : (b : ℕ) → b < 256 → sbox (inv_sbox b) ≡ b
unfolding sbox inv_sbox
sbox_inv_sbox b h = ap affine (inverse_twice (inv_affine b) (inv_affine_below b h)) ∙ reaffine b h
