-- How many bytes the reading of a unit passes, and the loop that reads the units.
use Rattle.std.proofs.Common.{◌≡◌, ◌+◌, ℕ, Bool, true, false, nat_eq, nat_lt, cond, List, [], length, take, None, Some, Result, Ok, Err, refl, ap, ◌∙◌, arith}
use Rattle.sym_edges.specs.Results.{◌>>=◌}
use Rattle.sym_edges.specs.declared.part.Sect.{Sect}
use Rattle.sym_edges.specs.declared.part.Sect.TheVariants.{Info}
use Rattle.leb_cursor.specs.declared.fault.CursorFault.{CursorFault}
use Rattle.leb_cursor.specs.Ahead.{Ahead}
use Rattle.leb_cursor.specs.Passes.{Passes}
use Rattle.leb_cursor.specs.Readings.{fixed_at, part_at}
use Rattle.leb_cursor.specs.Lists.{list_at, list_cases, GoesOn}
use Rattle.leb_cursor.proofs.PassLemmas.{fixed_passes, part_passes, passes_then}
use Rattle.std.proofs.Math.Seq.{take-length}
use Rattle.leb_cursor.proofs.ListLemmas.{weaker, either_passes, list_follows}
use Rattle.abbrev_units.specs.declared.fault.DwarfKind.{DwarfKind}
use Rattle.abbrev_units.specs.declared.fault.DwarfKind.TheVariants as is
use Rattle.abbrev_units.specs.declared.fault.HeaderFault.{HeaderFault}
use Rattle.abbrev_units.specs.declared.fault.HeaderFault.TheVariants.{Start}
use Rattle.abbrev_units.specs.declared.unit.Unit.{Unit}
use Rattle.abbrev_units.specs.Faults.{as_header, or_start}
use Rattle.abbrev_units.specs.InitialLength.{length_by, length_at, contents_at}
use Rattle.abbrev_units.proofs.BehindLemmas.{Behind, begins}
use Rattle.abbrev_units.specs.Units.{unit_in, header_at, unit_at, next_unit}

-- A reading passes the same bytes if only its fault is changed.
start_passes : {A : Type 0} (kind : DwarfKind) (reading : Result (A × Ahead) CursorFault) (least : ℕ) (c : Ahead) → Passes least c reading → Passes least c (or_start kind reading)
start_passes kind (Ok x) least c goes = goes
start_passes kind (Err fault) least c goes = tt

header_passes : {A : Type 0} (section : Sect) (start : ℕ) (reading : Result (A × Ahead) HeaderFault) (least : ℕ) (c : Ahead) → Passes least c reading → Passes least c (as_header section start reading)
header_passes section start (Ok x) least c goes = goes
header_passes section start (Err fault) least c goes = tt

pub length_passes : (c : Ahead) → Passes 4 c (length_at c)
unfolding length_at length_by
length_passes c =
    passes_then (or_start is.Ends (fixed_at 4 c)) (λ first. length_by first.0 first.1) 4 0 c (start_passes is.Ends (fixed_at 4 c) 4 c (fixed_passes 4 c))
    (λ first. either_passes (nat_lt first.0 0xfffffff0) _ _ 0 first.1 (omega arith, refl)
    (either_passes (nat_eq first.0 0xffffffff) _ (Err (Start is.Reserved)) 0 first.1
    (weaker (or_start is.Ends (fixed_at 8 first.1) >>= λ count. Ok (record { count = count.0; wide = true }, count.1)) 8 0 first.1 (omega arith)
    (passes_then (or_start is.Ends (fixed_at 8 first.1)) (λ count. Ok (record { count = count.0; wide = true }, count.1)) 8 0 first.1 (start_passes is.Ends (fixed_at 8 first.1) 8 first.1 (fixed_passes 8 first.1)) (λ count. (omega arith, refl))))
    tt))

pub contents_passes : (c : Ahead) → Passes 4 c (contents_at c)
unfolding contents_at
contents_passes c =
    passes_then (length_at c) (λ length. or_start is.Ends (part_at length.0.count length.1) >>= λ part. Ok (record { wide = length.0.wide; ahead = part.0 }, part.1)) 4 0 c (length_passes c)
    (λ length. weaker (or_start is.Ends (part_at length.0.count length.1) >>= λ part. Ok (record { wide = length.0.wide; ahead = part.0 }, part.1)) (length.0.count + 0) 0 length.1 (omega arith)
    (passes_then (or_start is.Ends (part_at length.0.count length.1)) (λ part. Ok (record { wide = length.0.wide; ahead = part.0 }, part.1)) length.0.count 0 length.1
    (start_passes is.Ends (part_at length.0.count length.1) length.0.count length.1 (part_passes length.0.count length.1)) (λ part. (omega arith, refl))))

-- A value that is made without reading passes no bytes.
made_passes : {A E : Type 0} (made : Result A E) (d : Ahead) → Passes 0 d (made >>= λ x. Ok (x, d))
made_passes (Ok x) d = (omega arith, refl)
made_passes (Err fault) d = tt

unit_passes : (c : Ahead) → Passes 4 c (unit_at c)
unfolding unit_at header_at
unit_passes c =
    header_passes Info c.at (contents_at c >>= λ contents. unit_in c.at contents.0 >>= λ unit. Ok (unit, contents.1)) 4 c
    (passes_then (contents_at c) (λ contents. unit_in c.at contents.0 >>= λ unit. Ok (unit, contents.1)) 4 0 c (contents_passes c) (λ contents. made_passes (unit_in c.at contents.0) contents.1))

-- A reading that gives a member of the list goes on.
member_goes : {A E : Type 0} (reading : Result (A × Ahead) E) (c : Ahead) → Passes 4 c reading → GoesOn c (reading >>= λ x. Ok (Some x.0, x.1))
member_goes (Ok x) c passes = (omega (arith, passes.0), passes.1)
member_goes (Err fault) c passes = tt

next_by : (ended : Bool) (c : Ahead) → GoesOn c (cond ended (Ok (None, c)) (unit_at c >>= λ unit. Ok (Some unit.0, unit.1)))
next_by true c = (omega arith, refl)
next_by false c = member_goes (unit_at c) c (unit_passes c)

pub next_goes : (c : Ahead) → GoesOn c (next_unit c)
unfolding next_unit
next_goes c = next_by (nat_eq (length c.bytes) 0) c

-- The steps of the loop.
pub units_begin : (info : List ℕ) (done : List Unit) (c : Ahead) → done ≡ [] → c ≡ record { bytes = take (length info) info; at = 0 } → Behind next_unit done c (list_at next_unit (record { bytes = info; at = 0 }))
units_begin info done c none start =
    let same : c ≡ record { bytes = info; at = 0 } = start ∙ ap (λ (all : List ℕ). record { bytes = all; at = 0 }) (take-length info) in
    begins next_unit done c _ next_goes none (ap (list_at next_unit) same)

pub units_follow : (c : Ahead) → list_at next_unit c ≡ list_cases next_unit c
units_follow c = list_follows next_unit next_goes c
