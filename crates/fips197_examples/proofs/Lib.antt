pub mod AppendixC
