-- The states after the CIEs of a section.
use Rattle.std.specs.Prelude.{◌≡◌, ℕ, ◌<◌, List, length, slice_index_or, Option, Some, None, Result}
use Rattle.std.specs.Ordering.{nat_cmp}
use Rattle.std.specs.BTreeMap.{get}
use Rattle.sym_edges.specs.declared.reason.Reason.{Reason}
use Rattle.frame_entries.specs.FdeFields.{FdeFields}
use Rattle.frame_entries.specs.SharedCies.{HaveOneCie}
use Rattle.frame_entries.specs.declared.description.Body.TheVariants.{Good}
use Rattle.frame_entries.specs.declared.description.Entry.{Entry}
use Rattle.frame_rows.specs.Left.{Left}
use Rattle.frame_rows.specs.CieLeft.{cie_left}
use Rattle.rule_postfix.specs.declared.cie_states.CieStates.{CieStates}

-- the state, if there is one, is that after an entry's CIE
abbrev pub IsStateOf : Option (Result Left Reason) → FdeFields → Type 0
IsStateOf None e = Unit {0}
IsStateOf (Some state) e = state ≡ cie_left e

-- the state at the place of an entry's CIE, if there is one, is that after this CIE
abbrev pub KeptFor : CieStates → FdeFields → Type 0
KeptFor states e = IsStateOf (get nat_cmp states.by_place e.cie) e

-- for each entry of a list, the state at the place of its CIE, if there is one, is that after this
-- CIE
abbrev pub KeptForAll : CieStates → List Entry → Type 0
KeptForAll states entries = (j : ℕ) (d : Entry) (f : FdeFields) → j < length entries → (slice_index_or entries j d).body ≡ Good f → KeptFor states f

-- if the state at the place of the CIE of an entry `f` was right before `entry` was handled, it is
-- right afterwards. It is assumed that `entry` and `f` have the same CIE if the places of their
-- CIEs are equal
abbrev pub StaysKept : Entry → CieStates → CieStates → Type 0
StaysKept entry before after =
    (f : FdeFields) → KeptFor before f → ((e : FdeFields) → entry.body ≡ Good e → e.cie ≡ f.cie → HaveOneCie e f) → KeptFor after f
