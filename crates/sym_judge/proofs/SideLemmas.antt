-- The place of an INIT is a place in its file.
use Rattle.std.proofs.Common.{◌≡◌, ◌<◌, ℕ, List, length, Some}
use Rattle.std.proofs.Common.{refl}
use Rattle.cfi_eval.specs.Inits.{init_place}
use Rattle.cfi_eval.proofs.InitLemmas as inits
use Rattle.sym_records.specs.declared.line.SymLine.{SymLine}

pub init_within : (lines : List SymLine) (x i : ℕ) → init_place lines x ≡ Some i → i < length lines
init_within lines x i h = inits.init_within lines lines x i refl h
