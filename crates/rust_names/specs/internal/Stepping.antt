-- The reading of parts that are not shown, by steps: what is still to be done, and what is known of the parts that were read.
use Rattle.std.specs.Prelude.{◌≡◌, ℕ, zero, suc, ◌+◌, ◌-◌, ◌*◌, ◌<◌, ◌≤◌, Bool, if◌then◌else◌, List, [], ◌∷◌, ◌++◌, length, drop, Option, Some, IfSome}
use Rattle.std.specs.Ordering.{nat_cmp}
use Rattle.std.specs.BTreeMap.{BTreeMap, get}
use Rattle.rust_names.specs.declared.grammar.Kind.TheVariants as kind
use Rattle.rust_names.specs.declared.grammar.Item.TheVariants as item
use Rattle.rust_names.specs.declared.grammar.Count.TheVariants.{Many}
use Rattle.rust_names.specs.declared.grammar.Phrase.TheVariants as phrase
use Rattle.rust_names.specs.declared.grammar.Part.{Part}
use Rattle.rust_names.specs.declared.grammar.Part.TheVariants.{Deep, Back, Phrase as Made}
use Rattle.rust_names.specs.declared.grammar.Frame.{Frame}
use Rattle.rust_names.specs.declared.passing.Begun.{Begun}
use Rattle.rust_names.specs.declared.passing.Reached.{Reached}
use Rattle.rust_names.specs.declared.passing.Step.{Step}
use Rattle.rust_names.specs.declared.passing.Step.TheVariants.{Read, End}
use Rattle.rust_names.specs.V0Names.{State, all, read_within, read_level}
use Rattle.rust_names.specs.internal.Passing.{dark}
use Rattle.rust_names.specs.internal.Running.{at}

-- parts, read one after the other where nothing is shown
abbrev pub reads : List ℕ → ℕ → ℕ → ℕ → List Part → State → Option State
reads name levels width bound parts s = all (read_within (read_level name levels) name width (dark bound)) parts s

abbrev pub one_reads : List ℕ → ℕ → ℕ → ℕ → Part → State → Option State
one_reads name levels width bound part s = read_within (read_level name levels) name width (dark bound) part s

abbrev pub stands : List ℕ → ℕ → Bool → List ℕ → State
stands name place opened text = at (drop place name) text opened

-- reading the part ends at `r.place`, if at least `r.levels` levels and `r.width` symbols may nest
-- in it
abbrev pub Passes : List ℕ → Part → ℕ → Bool → Reached → Type 0
Passes name part place opened r = (levels width bound : ℕ) (text : List ℕ) → r.levels ≤ levels → r.width ≤ width → one_reads name levels width bound part (stands name place opened text) ≡ Some (stands name r.place r.opened text)

-- the outcome `r` of two readings, of which `end` follows `now`: it has the place of `end`, and
-- enough levels and symbols for both
pub record IsJoined (now end r : Reached) : Type 0 where
  pub place : r.place ≡ end.place
  pub opened : r.opened ≡ end.opened
  pub levels : now.levels ≤ r.levels
  pub width : now.width ≤ r.width
  pub own_levels : end.levels ≤ r.levels
  pub own_width : end.width ≤ r.width

-- how many levels and symbols may nest in the parts of a part
abbrev pub inner_levels : Part → ℕ → ℕ
inner_levels (Deep k) levels = levels - 1
inner_levels (Back k) levels = levels - 1
inner_levels p levels = levels

abbrev pub inner_width : List ℕ → Part → ℕ → ℕ
inner_width name (Deep k) width = length name + 8
inner_width name (Back k) width = length name + 8
inner_width name p width = width - 1

abbrev pub Fits : Part → ℕ → ℕ → Type 0
Fits (Deep k) levels width = 1 ≤ levels
Fits (Back k) levels width = 1 ≤ levels
Fits p levels width = 1 ≤ width

-- reading a part gives the same as reading, from `now` on, those of its parts that are left
-- (`parts`)
abbrev pub Begins : List ℕ → Begun → List Part → Reached → Type 0
Begins name b parts now = (levels width bound : ℕ) (text : List ℕ) → Fits b.part levels width → now.levels ≤ inner_levels b.part levels → now.width ≤ inner_width name b.part width
    → one_reads name levels width bound b.part (stands name b.from.place b.from.opened text) ≡ reads name (inner_levels b.part levels) (inner_width name b.part width) bound parts (stands name now.place now.opened text)

abbrev pub CanEnd : List ℕ → Step → Reached → Type 0
CanEnd name (Read p) now = Unit {0}
CanEnd name (End b) now = Begins name b [] now

-- reading `first` gives the same as reading `parts` and then doing the steps, the top one first
abbrev pub Waits : List ℕ → Begun → List Step → List Part → Reached → Type 0
Waits name first [] parts now = (levels width bound : ℕ) (text : List ℕ) → now.levels ≤ levels → now.width ≤ width
    → one_reads name levels width bound first.part (stands name first.from.place first.from.opened text) ≡ reads name levels width bound parts (stands name now.place now.opened text)
Waits name first (Read p ∷ steps) parts now = Waits name first steps (parts ++ p ∷ []) now
Waits name first (End b ∷ steps) parts now = Begins name b parts now × Waits name first steps (b.part ∷ []) b.from

abbrev pub read_of : Frame → Step
read_of f = Read f.part

-- the part for which a number stands
abbrev pub coded : ℕ → Part
coded zero = Deep kind.Path
coded (suc zero) = Deep kind.ValuePath
coded (suc (suc zero)) = Deep kind.TraitPath
coded (suc (suc (suc zero))) = Deep kind.Type
coded (suc (suc (suc (suc zero)))) = Deep kind.Constant
coded (suc (suc (suc (suc (suc zero))))) = Deep kind.Value
coded (suc (suc (suc (suc (suc (suc zero)))))) = Made (phrase.Items item.Argument Many)
coded (suc (suc (suc (suc (suc (suc (suc zero))))))) = Made (phrase.Items item.Parameter Many)
coded (suc (suc (suc (suc (suc (suc (suc (suc zero)))))))) = Made (phrase.Items item.Member Many)
coded (suc (suc (suc (suc (suc (suc (suc (suc (suc zero))))))))) = Made (phrase.Items item.Element Many)
coded (suc (suc (suc (suc (suc (suc (suc (suc (suc (suc zero)))))))))) = Made (phrase.Items item.Component Many)
coded (suc (suc (suc (suc (suc (suc (suc (suc (suc (suc (suc zero))))))))))) = Made (phrase.Items item.Field Many)
coded (suc (suc (suc (suc (suc (suc (suc (suc (suc (suc (suc (suc zero)))))))))))) = Made (phrase.Items item.Bound Many)
coded k = Made phrase.LaterBindings

-- the key of what is known of a part: its place, its number, and whether the last trait's arguments
-- are open at that place
abbrev pub key : ℕ → ℕ → Bool → ℕ
key place code opened = 32 * place + 2 * code + (if opened then 1 else 0)

abbrev pub AreHidden : List ℕ → BTreeMap ℕ Reached → Type 0
AreHidden name known = (place code : ℕ) (opened : Bool) → code < 16 → IfSome (get nat_cmp known (key place code opened)) (Passes name (coded code) place opened)
