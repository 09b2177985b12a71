-- Units follow one another, and their entries come after their headers; for the law about the
-- places of units.
use Rattle.std.proofs.Common.{◌≡◌, ◌≤◌, ◌+◌, ℕ, zero, suc, Bool, true, false, nat_eq, nat_lt, cond, List, [], ◌∷◌, length, take, Option, None, Some, Result, Ok, Err, IfOk, refl, sym, ap, subst, ◌∙◌, arith, length-take-le}
use Rattle.std.proofs.lemmas.Bool.{ltb-false}
use Rattle.std.proofs.lemmas.Result.{IfOk-at_ok}
use Rattle.std.specs.List.{AllByRecursion}
use Rattle.sym_edges.specs.Results.{◌>>=◌}
use Rattle.sym_edges.specs.declared.part.Sect.TheVariants.{Info}
use Rattle.leb_cursor.specs.declared.fault.CursorFault.{CursorFault}
use Rattle.leb_cursor.specs.Ahead.{Ahead, passed}
use Rattle.leb_cursor.specs.Passes.{Passes}
use Rattle.leb_cursor.specs.Readings.{fixed_at, take_at, part_at}
use Rattle.leb_cursor.specs.Lists.{list_by, list_in, list_at, GoesOn}
use Rattle.leb_cursor.proofs.PassLemmas.{fixed_passes, take_passes}
use Rattle.abbrev_units.specs.declared.fault.DwarfKind.TheVariants as is
use Rattle.abbrev_units.specs.declared.fault.HeaderFault.{HeaderFault}
use Rattle.abbrev_units.specs.declared.unit.Frame.{Frame}
use Rattle.abbrev_units.specs.declared.unit.Unit.{Unit}
use Rattle.abbrev_units.specs.declared.unit.UnitPart.{UnitPart}
use Rattle.abbrev_units.specs.declared.unit.UnitPart.TheVariants as part
use Rattle.abbrev_units.specs.declared.length.InitialLength.{InitialLength}
use Rattle.abbrev_units.specs.Contents.{Contents}
use Rattle.abbrev_units.specs.Faults.{as_field, as_header, or_start}
use Rattle.abbrev_units.specs.InitialLength.{length_at, contents_at}
use Rattle.abbrev_units.specs.Texts.{place_width}
use Rattle.abbrev_units.specs.Units.{other_unit, read_unit, address_size_at, abbrev_place_at, version_4_at, id_at, version_5_by, version_5_at, is_read_type, is_passed_type, unit_by, unit_in, header_at, unit_at, next_unit, units_in}
use Rattle.abbrev_units.proofs.OkLemmas.{then_ok, either_ok}
use Rattle.abbrev_units.proofs.UnitLemmas.{length_passes, next_goes}
use Rattle.abbrev_units.specs.UnitPlaces.{BodyInside, Follow, IsInside, with_read, read_units}

abbrev end_of : Ahead → ℕ
end_of c = c.at + length c.bytes

-- What is ahead begins at `low` or later, and ends at `end`.
abbrev Within : ℕ → ℕ → Ahead → Type 0
Within low end c = (low ≤ c.at) × (end_of c ≡ end)

abbrev LeftWithin : {A : Type 0} → ℕ → ℕ → A × Ahead → Type 0
LeftWithin low end x = Within low end x.1

-- Reading a field of a header.
field_within : {A : Type 0} (low more end least : ℕ) (c : Ahead) (reading : Result (A × Ahead) CursorFault) → more ≤ low + least → Passes least c reading → Within low end c → IfOk (as_field reading) (LeftWithin more end)
field_within low more end least c (Ok x) far goes within = (omega (arith, far, goes.0, goes.1, within.0), goes.1 ∙ within.1)
field_within low more end least c (Err fault) far goes within = tt

-- A unit from `start` to `end`, whose entries come after its header.
abbrev Framed : ℕ → ℕ → Unit → Type 0
Framed start end unit = (unit.start ≡ start) × (unit.end ≡ end) × BodyInside unit unit.part

read_framed : (f : Frame) (place : ℕ) (c : Ahead) → Within (f.start + 1) f.end c → Framed f.start f.end (read_unit f place c.at)
read_framed f place c within = (refl, refl, (omega (arith, within.0), omega (arith, within.1)))

size_within : (low end : ℕ) (c : Ahead) → Within low end c → IfOk (address_size_at c) (Within low end)
unfolding address_size_at
size_within low end c within =
    then_ok (LeftWithin low end) (Within low end) (as_field (fixed_at 1 c)) _ (field_within low low end 1 c (fixed_at 1 c) (omega arith) (fixed_passes 1 c) within)
    (λ size there. either_ok (Within low end) (nat_eq size.0 8) (Ok size.1) _ there tt)

place_within : (wide : Bool) (low end : ℕ) (c : Ahead) → Within low end c → IfOk (abbrev_place_at wide c) (LeftWithin low end)
place_within wide low end c within = field_within low low end (place_width wide) c (fixed_at (place_width wide) c) (omega arith) (fixed_passes (place_width wide) c) within

id_within : (type_ low end : ℕ) (c : Ahead) → Within low end c → IfOk (id_at type_ c) (LeftWithin low end)
id_within type_ low end c within = field_within low low end (cond (nat_eq type_ 4) 8 0) c (take_at (cond (nat_eq type_ 4) 8 0) c) (omega arith) (take_passes (cond (nat_eq type_ 4) 8 0) c) within

version_4_framed : (f : Frame) (c : Ahead) → Within (f.start + 1) f.end c → IfOk (version_4_at f c) (Framed f.start f.end)
unfolding version_4_at
version_4_framed f c within =
    then_ok (LeftWithin (f.start + 1) f.end) (Framed f.start f.end) (abbrev_place_at f.wide c) _ (place_within f.wide (f.start + 1) f.end c within)
    (λ place there. then_ok (Within (f.start + 1) f.end) (Framed f.start f.end) (address_size_at place.1) _ (size_within (f.start + 1) f.end place.1 there)
    (λ body behind. read_framed f place.0 body behind))

fields_framed : (f : Frame) (type_ : ℕ) (c : Ahead) → Within (f.start + 1) f.end c → IfOk (version_5_by f type_ c) (Framed f.start f.end)
unfolding version_5_by
fields_framed f type_ c within =
    then_ok (Within (f.start + 1) f.end) (Framed f.start f.end) (address_size_at c) _ (size_within (f.start + 1) f.end c within)
    (λ size there. then_ok (LeftWithin (f.start + 1) f.end) (Framed f.start f.end) (abbrev_place_at f.wide size) _ (place_within f.wide (f.start + 1) f.end size there)
    (λ place behind. then_ok (LeftWithin (f.start + 1) f.end) (Framed f.start f.end) (id_at type_ place.1) _ (id_within type_ (f.start + 1) f.end place.1 behind)
    (λ id last. read_framed f place.0 id.1 last)))

version_5_framed : (f : Frame) (c : Ahead) → Within (f.start + 1) f.end c → IfOk (version_5_at f c) (Framed f.start f.end)
unfolding version_5_at
version_5_framed f c within =
    then_ok (LeftWithin (f.start + 1) f.end) (Framed f.start f.end) (as_field (fixed_at 1 c)) _ (field_within (f.start + 1) (f.start + 1) f.end 1 c (fixed_at 1 c) (omega arith) (fixed_passes 1 c) within)
    (λ type_ there. either_ok (Framed f.start f.end) (is_passed_type type_.0) (Ok (other_unit part.Passed f)) _ (refl, refl, tt)
    (either_ok (Framed f.start f.end) (is_read_type type_.0) (version_5_by f type_.0 type_.1) _ (fields_framed f type_.0 type_.1 there) tt))

unit_framed : (f : Frame) (c : Ahead) → Within (f.start + 1) f.end c → IfOk (unit_by f c) (Framed f.start f.end)
unfolding unit_by
unit_framed f c within =
    either_ok (Framed f.start f.end) (nat_eq f.version 4) (version_4_at f c) _ (version_4_framed f c within)
    (either_ok (Framed f.start f.end) (nat_eq f.version 5) (version_5_at f c) (Ok (other_unit part.Skipped f)) (version_5_framed f c within) (refl, refl, tt))

-- The header of a unit, read from the bytes that its length counts.
abbrev frame_of : ℕ → Contents → ℕ → Frame
frame_of start contents version = record { start = start; end = end_of contents.ahead; version = version; wide = contents.wide }

unit_in_framed : (start : ℕ) (contents : Contents) → start ≤ contents.ahead.at → IfOk (unit_in start contents) (Framed start (end_of contents.ahead))
unfolding unit_in
unit_in_framed start contents behind =
    then_ok (LeftWithin (contents.ahead.at + 2) (end_of contents.ahead)) (Framed start (end_of contents.ahead)) (as_field (fixed_at 2 contents.ahead)) _
    (field_within contents.ahead.at (contents.ahead.at + 2) (end_of contents.ahead) 2 contents.ahead (fixed_at 2 contents.ahead) (omega arith) (fixed_passes 2 contents.ahead) (omega arith, refl))
    (λ version there. unit_framed (frame_of start contents version.0) version.1 (omega (arith, behind, there.0), there.1))

-- The bytes that the length counts end where the next unit begins.
abbrev Contained : Ahead → Contents × Ahead → Type 0
Contained c x = (c.at + 4 ≤ x.0.ahead.at) × (end_of x.0.ahead ≡ x.1.at)

abbrev Cut : Ahead → Ahead × Ahead → Type 0
Cut c part = (part.0.at ≡ c.at) × (end_of part.0 ≡ part.1.at)

cut_by : (long : Bool) (n : ℕ) (c : Ahead) (fault : CursorFault) → (long ≡ false → n ≤ length c.bytes) → IfOk (or_start is.Ends (cond long (Err fault) (Ok (record { bytes = take n c.bytes; at = c.at }, passed n c)))) (Cut c)
unfolding passed
cut_by true n c fault there = tt
cut_by false n c fault there = (refl, ap (λ k. c.at + k) (length-take-le n c.bytes (there refl)))

part_cut : (n : ℕ) (c : Ahead) → IfOk (or_start is.Ends (part_at n c)) (Cut c)
unfolding part_at
part_cut n c = cut_by (nat_lt (length c.bytes) n) n c _ (λ long. ltb-false _ _ long)

behind_length : (c : Ahead) (reading : Result (InitialLength × Ahead) HeaderFault) → Passes 4 c reading → IfOk reading (λ x. c.at + 4 ≤ x.1.at)
behind_length c (Ok x) goes = omega (arith, goes.0, goes.1)
behind_length c (Err fault) goes = tt

contents_held : (c : Ahead) → IfOk (contents_at c) (Contained c)
unfolding contents_at
contents_held c =
    then_ok (λ (x : InitialLength × Ahead). c.at + 4 ≤ x.1.at) (Contained c) (length_at c) _ (behind_length c (length_at c) (length_passes c))
    (λ length behind. then_ok (Cut length.1) (Contained c) (or_start is.Ends (part_at length.0.count length.1)) _ (part_cut length.0.count length.1)
    (λ part cut. (omega (arith, behind, cut.0), cut.1)))

-- The next unit goes from its start to the start of the unit after it.
abbrev Stands : Ahead → Unit × Ahead → Type 0
Stands c x = (x.0.start ≡ c.at) × (x.0.end ≡ x.1.at) × (c.at + 4 ≤ x.1.at) × BodyInside x.0 x.0.part

header_stands : (c : Ahead) → IfOk (header_at c) (Stands c)
unfolding header_at
header_stands c =
    then_ok (Contained c) (Stands c) (contents_at c) _ (contents_held c)
    (λ contents held. then_ok (Framed c.at (end_of contents.0.ahead)) (Stands c) (unit_in c.at contents.0) _ (unit_in_framed c.at contents.0 (omega (arith, held.0)))
    (λ unit framed. (framed.0, framed.1 ∙ held.1, omega (arith, held.0, held.1), framed.2)))

placed_ok : {A : Type 0} (Q : A → Type 0) (at : ℕ) (reading : Result A HeaderFault) → IfOk reading Q → IfOk (as_header Info at reading) Q
placed_ok Q at (Ok x) holds = holds
placed_ok Q at (Err fault) holds = tt

unit_stands : (c : Ahead) → IfOk (unit_at c) (Stands c)
unfolding unit_at
unit_stands c = placed_ok (Stands c) c.at (header_at c) (header_stands c)

abbrev MemberStands : Ahead → Option Unit × Ahead → Type 0
MemberStands c (None, d) = Prim.Unit {0}
MemberStands c (Some unit, d) = Stands c (unit, d)

next_stands : (c : Ahead) → IfOk (next_unit c) (MemberStands c)
unfolding next_unit
next_stands c =
    either_ok (MemberStands c) (nat_eq (length c.bytes) 0) (Ok (None, c)) _ tt
    (then_ok (Stands c) (MemberStands c) (unit_at c) _ (unit_stands c) (λ unit stands. stands))

-- All units ahead.
abbrev ListFollows : ℕ → ℕ → List Unit × Ahead → Type 0
ListFollows low high x = Follow low high x.0

first_follows : (unit : Unit) (c d : Ahead) (rest : List Unit) → Stands c (unit, d) → end_of d ≡ end_of c → Follow d.at (end_of d) rest → Follow c.at (end_of c) (unit ∷ rest)
first_follows unit c d rest stands same follows = (
  omega (arith, stands.0),
  omega (arith, stands.0, stands.1, stands.2),
  omega (arith, stands.1, same),
  stands.3,
  subst (λ low. Follow low (end_of c) rest) (sym stands.1) (subst (λ high. Follow d.at high rest) same follows),
)

list_follows : {E : Type 0} (first : Result (Option Unit × Ahead) E) (later : Ahead → Result (List Unit × Ahead) E) (c : Ahead) → GoesOn c first → IfOk first (MemberStands c) → ((d : Ahead) → IfOk (later d) (ListFollows d.at (end_of d))) → IfOk (first >>= λ x. list_by x.0 x.1 (later x.1)) (ListFollows c.at (end_of c))
list_follows (Ok (None, d)) later c goes stands follows = tt
list_follows (Ok (Some unit, d)) later c goes stands follows =
    then_ok (ListFollows d.at (end_of d)) (ListFollows c.at (end_of c)) (later d) _ (follows d) (λ rest after. first_follows unit c d rest.0 stands goes.1 after)
list_follows (Err fault) later c goes stands follows = tt

units_follow_in : (n : ℕ) (c : Ahead) → IfOk (list_in next_unit n c) (ListFollows c.at (end_of c))
unfolding list_in
units_follow_in zero c = tt
units_follow_in (suc n) c = list_follows (next_unit c) (list_in next_unit n) c (next_goes c) (next_stands c) (λ d. units_follow_in n d)

-- The units of a section follow one another, up to the end of the section.
pub units_follow : (info : List ℕ) (units : List Unit) → units_in info ≡ Ok units → Follow 0 (length info) units
unfolding units_in list_at
units_follow info units is =
    let c : Ahead = record { bytes = info; at = 0 } in
    let last : end_of c ≡ length info = omega arith in
    IfOk-at_ok (Follow 0 (length info)) is
    (then_ok (ListFollows 0 (length info)) (Follow 0 (length info)) (list_at next_unit c) (λ x. Ok x.0)
    (subst (λ high. IfOk (list_at next_unit c) (ListFollows 0 high)) last (units_follow_in (suc (length info)) c)) (λ x follow. follow))

-- The entries of the units that are read are in the section.
inside_by : (unit : Unit) (which : UnitPart) (later : List Unit) (high : ℕ) → BodyInside unit which → unit.end ≤ high → AllByRecursion (IsInside high) later → AllByRecursion (IsInside high) (with_read unit which later)
inside_by unit part.Read later high body end all = (record { ordered = body.1; inside = end }, all)
inside_by unit part.Passed later high body end all = all
inside_by unit part.Skipped later high body end all = all

are_inside : (low high : ℕ) (units : List Unit) → Follow low high units → AllByRecursion (IsInside high) (read_units units)
are_inside low high [] follow = tt
are_inside low high (unit ∷ units) follow = inside_by unit unit.part (read_units units) high follow.3 follow.2 (are_inside unit.end high units follow.4)

pub units_inside : (info : List ℕ) (units : List Unit) → units_in info ≡ Ok units → AllByRecursion (IsInside (length info)) (read_units units)
units_inside info units is = are_inside 0 (length info) units (units_follow info units is)
