-- How many bytes the items of range lists pass.
use Rattle.std.proofs.Common.{ℕ, ◌+◌, nat_eq, nat_lt, Option, None, Some, Result, Ok, Err, refl, arith}
use Rattle.sym_edges.specs.Results.{◌>>=◌}
use Rattle.sym_edges.specs.declared.part.Sect.{Sect}
use Rattle.leb_cursor.specs.declared.fault.CursorFault.{CursorFault}
use Rattle.leb_cursor.specs.Ahead.{Ahead}
use Rattle.leb_cursor.specs.Passes.{Passes}
use Rattle.leb_cursor.specs.Lists.{GoesOn}
use Rattle.leb_cursor.specs.Readings.{fixed_at, uleb_at}
use Rattle.leb_cursor.proofs.PassLemmas.{fixed_passes, uleb_passes, passes_then}
use Rattle.leb_cursor.proofs.ListLemmas.{weaker, either_passes, goes_of}
use Rattle.range_lists.specs.declared.item.RangeItem.{RangeItem}
use Rattle.range_lists.specs.declared.item.RangeItem.TheVariants as item
use Rattle.range_lists.specs.declared.item.ItemFault.{ItemFault}
use Rattle.range_lists.specs.declared.item.ItemFault.TheVariants as fault
use Rattle.range_lists.specs.AddressTable.{AddressTable}
use Rattle.range_lists.specs.ListItems.{pair_at, as_item, item_with, item_with_two, item_by, rnglist_item_at, item_at}
use Rattle.range_lists.specs.ListPairs.{effect_of, list_section, in_list, effect_by, effect_at}

-- A reading passes the same bytes if only its fault is changed.
as_item_passes : {A : Type 0} (reading : Result (A × Ahead) CursorFault) (least : ℕ) (c : Ahead) → Passes least c reading → Passes least c (as_item reading)
as_item_passes (Ok x) least c goes = goes
as_item_passes (Err f) least c goes = tt

in_list_passes : {A : Type 0} (section : Sect) (reading : Result (A × Ahead) ItemFault) (least : ℕ) (c : Ahead) → Passes least c reading → Passes least c (in_list section reading)
in_list_passes section (Ok x) least c goes = goes
in_list_passes section (Err f) least c goes = tt

pair_passes : (c : Ahead) → Passes 16 c (pair_at c)
unfolding pair_at
pair_passes c =
    passes_then (fixed_at 8 c) _ 8 8 c (fixed_passes 8 c)
    (λ first. passes_then (fixed_at 8 first.1) _ 8 0 first.1 (fixed_passes 8 first.1) (λ second. (omega arith, refl)))

with_passes : (make : ℕ → RangeItem) (operand : Result (ℕ × Ahead) CursorFault) (least : ℕ) (c : Ahead) → Passes least c operand → Passes 0 c (item_with make operand)
with_passes make operand least c goes =
    weaker (item_with make operand) (least + 0) 0 c (omega arith)
    (passes_then (as_item operand) (λ x. Ok (Some (make x.0), x.1)) least 0 c (as_item_passes operand least c goes) (λ x. (omega arith, refl)))

two_pass : (make : ℕ → ℕ → RangeItem) (first : Result (ℕ × Ahead) CursorFault) (second : Ahead → Result (ℕ × Ahead) CursorFault) (least more : ℕ) (c : Ahead) → Passes least c first → ((d : Ahead) → Passes more d (second d)) → Passes 0 c (item_with_two make first second)
two_pass make first second least more c goes later =
    weaker (item_with_two make first second) (least + (more + 0)) 0 c (omega arith)
    (passes_then (as_item first) (λ x. as_item (second x.1) >>= λ y. Ok (Some (make x.0 y.0), y.1)) least (more + 0) c (as_item_passes first least c goes)
    (λ x. passes_then (as_item (second x.1)) (λ y. Ok (Some (make x.0 y.0), y.1)) more 0 x.1 (as_item_passes (second x.1) more x.1 (later x.1)) (λ y. (omega arith, refl))))

item_by_passes : (kind at : ℕ) (c : Ahead) → Passes 0 c (item_by kind at c)
unfolding item_by
item_by_passes kind at c =
    either_passes (nat_eq kind 0) _ _ 0 c (omega arith, refl)
    (either_passes (nat_eq kind 1) _ _ 0 c (with_passes item.BaseAddressx (uleb_at c) 1 c (uleb_passes c))
    (either_passes (nat_eq kind 2) _ _ 0 c (two_pass item.StartxEndx (uleb_at c) uleb_at 1 1 c (uleb_passes c) uleb_passes)
    (either_passes (nat_eq kind 3) _ _ 0 c (two_pass item.StartxLength (uleb_at c) uleb_at 1 1 c (uleb_passes c) uleb_passes)
    (either_passes (nat_eq kind 4) _ _ 0 c (two_pass item.OffsetPair (uleb_at c) uleb_at 1 1 c (uleb_passes c) uleb_passes)
    (either_passes (nat_eq kind 5) _ _ 0 c (with_passes item.BaseAddress (fixed_at 8 c) 8 c (fixed_passes 8 c))
    (either_passes (nat_eq kind 6) _ _ 0 c (two_pass item.StartEnd (fixed_at 8 c) (fixed_at 8) 8 8 c (fixed_passes 8 c) (fixed_passes 8))
    (either_passes (nat_eq kind 7) _ (Err (fault.Kind at)) 0 c (two_pass item.StartLength (fixed_at 8 c) uleb_at 8 1 c (fixed_passes 8 c) uleb_passes) tt)))))))

rnglist_item_passes : (c : Ahead) → Passes 1 c (rnglist_item_at c)
unfolding rnglist_item_at
rnglist_item_passes c =
    passes_then (as_item (fixed_at 1 c)) (λ kind. item_by kind.0 c.at kind.1) 1 0 c (as_item_passes (fixed_at 1 c) 1 c (fixed_passes 1 c)) (λ kind. item_by_passes kind.0 c.at kind.1)

item_passes : (version : ℕ) (c : Ahead) → Passes 1 c (item_at version c)
unfolding item_at
item_passes version c =
    either_passes (nat_lt version 5) (as_item (pair_at c)) (rnglist_item_at c) 1 c
    (weaker (as_item (pair_at c)) 16 1 c (omega arith) (as_item_passes (pair_at c) 16 c (pair_passes c)))
    (rnglist_item_passes c)

-- A value that is made without reading passes no bytes.
made_passes : {A B E : Type 0} (make : A → B) (made : Result A E) (d : Ahead) → Passes 0 d (made >>= λ x. Ok (make x, d))
made_passes make (Ok x) d = (omega arith, refl)
made_passes make (Err f) d = tt

effect_by_passes : (table : AddressTable) (found : Option RangeItem) (c : Ahead) → Passes 0 c (effect_by table found c)
effect_by_passes table None c = (omega arith, refl)
effect_by_passes table (Some found) c = made_passes Some (effect_of table found) c

pub effect_goes : (version : ℕ) (table : AddressTable) (c : Ahead) → GoesOn c (effect_at version table c)
unfolding effect_at
effect_goes version table c =
    goes_of (effect_at version table c) c
    (passes_then (in_list (list_section version) (item_at version c)) (λ found. effect_by table found.0 found.1) 1 0 c
    (in_list_passes (list_section version) (item_at version c) 1 c (item_passes version c)) (λ found. effect_by_passes table found.0 found.1))
