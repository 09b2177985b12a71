-- Tests by cases, and reasons. The lemmas are for those of CfaLemmas, EntryLemmas, RowLemmas and
-- SoundLemmas.
use Rattle.std.proofs.Common.{◌≡◌, Bool, true, false, Option, Some, None, refl}
use Rattle.sym_edges.specs.declared.reason.Reason.{Reason}
use Rattle.std.specs.Option.{option_or}

-- A test by cases.
pub elim_bool : (b : Bool) (P : Bool → Type 0) → (b ≡ true → P true) → (b ≡ false → P false) → P b
elim_bool true P whole none = whole refl
elim_bool false P whole none = none refl

-- Neither of two reasons is present.
pub neither : (first later : Option Reason) → option_or first later ≡ None → (first ≡ None) × (later ≡ None)
neither None later is = (refl, is)
neither (Some why) later is = cc
