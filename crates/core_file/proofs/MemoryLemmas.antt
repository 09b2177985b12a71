-- Which segment gives an address its byte.
use Rattle.std.proofs.Common.{◌≡◌, ℕ, suc, ◌+◌, ◌-◌, ◌<◌, ◌≤◌, ◌^◌, Bool, true, false, cond, List, [], ◌∷◌, ◌++◌, Option, Some, None, length, drop, get_or, find, refl, sym, ◌∙◌, ap, arith, append_assoc, length-drop, if◌then◌else◌}
use Rattle.std.specs.Prelude.{is_some, ◌&&◌, ◌==◌, nat_lt, nat_le, min, slice_get, option_and_then}
use Rattle.std.proofs.lemmas.List.{append-nil, get_or-drop}
use Rattle.std.proofs.lemmas.Bool.{lt-ltb}
use Rattle.std.proofs.lemmas.Bool.Decides.{nat_tests}
use Rattle.elf_sections.specs.ElfNumbers.{pt_load}
use Rattle.step_maps.specs.declared.stretch.Stretch.{Stretch}
use Rattle.step_maps.specs.Covers.{AreStretches}
use Rattle.core_file.specs.declared.segments.Segment.{Segment}
use Rattle.std.specs.Option.{option_map}
use Rattle.std.proofs.lemmas.Option.{slice_get-get_or}
use Rattle.std.proofs.lemmas.Bool.{leb-true, ltb-true, le-leb}
use Rattle.step_maps.specs.Covers.{reaches, first_at, first_item, is_shared}
use Rattle.step_maps.specs.Stepping.{Stepping, value_at}
use Rattle.step_maps.specs.declared.stretch.FirstItem.{FirstItem}
use Rattle.core_file.proofs.PartLemmas.{drop_drop}
use Rattle.core_file.specs.LoadedImages.{is_load}
use Rattle.core_file.specs.CoreNumbers.{address_end}
use Rattle.core_file.specs.Memory.{Memory, present, gives, byte_at}
use Rattle.core_file.specs.internal.Firsts.{stretch_of, stretches_of, AreFirsts}

pub stretches_end : (file : List ℕ) (i : ℕ) (done : List Stretch) → done ++ stretches_of file i [] ≡ done
unfolding stretches_of
stretches_end file i done = append-nil done

-- The stretch of a segment that gives bytes is added; a segment that gives none adds nothing.
pub stretch_more : (file : List ℕ) (i : ℕ) (s : Segment) (later : List Segment) (done : List Stretch) → s.kind ≡ 1 → 0 < present file s → (done ++ stretch_of file i s ∷ []) ++ stretches_of file (i + 1) later ≡ done ++ stretches_of file i (s ∷ later)
unfolding stretches_of
stretch_more file i s later done load some =
    let k : (s.kind == 1) ≡ true = grind (arith, nat_tests) in
    let p : nat_lt 0 (present file s) ≡ true = lt-ltb 0 (present file s) some in
    rw (k, p) (append_assoc done (stretch_of file i s ∷ []) (stretches_of file (i + 1) later))

pub stretch_none : (file : List ℕ) (i : ℕ) (s : Segment) (later : List Segment) (done : List Stretch) → (is_load s && nat_lt 0 (present file s)) ≡ false → done ++ stretches_of file (i + 1) later ≡ done ++ stretches_of file i (s ∷ later)
unfolding stretches_of
stretch_none file i s later done none = rw none refl

pub stretches_push : (xs : List Stretch) (x : Stretch) → AreStretches xs → x.first ≤ x.last → AreStretches (xs ++ x ∷ [])
stretches_push [] x all last = (last, tt)
stretches_push (y ∷ xs) x all last = (all.0, stretches_push xs x all.1 last)

-- The segment that was found gives the byte.
find_by : {X : Type 0} (p : X → Bool) (y x : X) (b : Bool) (rest : Option X) → p y ≡ b → cond b (Some y) rest ≡ Some x → (rest ≡ Some x → p x ≡ true) → p x ≡ true
find_by p y x true rest test is later = let e : y ≡ x = cc in ap p (sym e) ∙ test
find_by p y x false rest test is later = later is

pub find_true : {X : Type 0} (p : X → Bool) (xs : List X) (x : X) → find p xs ≡ Some x → p x ≡ true
find_true p [] x is = cc
find_true p (y ∷ xs) x is = find_by p y x (p y) (find p xs) refl is (find_true p xs x)

-- The elements from a place on.
drop_next : {X : Type 0} (i : ℕ) (xs ys : List X) (x : X) → drop i xs ≡ x ∷ ys → drop (i + 1) xs ≡ ys
drop_next i xs ys x is = sym (drop_drop 1 i xs) ∙ ap (drop 1) is

here : {X : Type 0} (i : ℕ) (xs ys : List X) (x : X) → drop i xs ≡ x ∷ ys → slice_get xs i ≡ Some x
here i xs ys x is =
    let l : length (drop i xs) ≡ suc (length ys) = ap length is in
    let z : i ≡ i + 0 = omega arith in
    let e : get_or xs i x ≡ x =
    ap (λ j. get_or xs j x) z ∙ sym (get_or-drop i xs 0 x) ∙ ap (λ m. get_or m 0 x) is in
    slice_get-get_or xs i x (omega (arith, length-drop i xs)) ∙ ap Some e

-- A segment gives an address a byte if it gives any bytes and its stretch has the address.
gives_number : (k : Bool) (address n a : ℕ) → a < 2 ^ 64 → (k && (nat_le address a && nat_lt a (address + n))) ≡ ((k && nat_lt 0 n) && (nat_le address a && nat_le a (min (address + (n - 1)) (2 ^ 64 - 1))))
gives_number true address n a below = grind (arith, nat_tests)
gives_number false address n a below = refl

gives_is : (file : List ℕ) (i a : ℕ) (s : Segment) → a < 2 ^ 64 → gives file a s ≡ ((is_load s && nat_lt 0 (present file s)) && reaches (stretch_of file i s) a)
unfolding gives
gives_is file i a s below = gives_number (s.kind == pt_load) s.address (present file s) a below

step : (all : List Segment) (a : ℕ) (m r : Bool) (s : Segment) (x : Option Segment) (own : Stretch) (rest : List Stretch) → slice_get all own.index ≡ Some s → x ≡ option_and_then (λ t. slice_get all t.index) (find (λ t. reaches t a) rest) → reaches own a ≡ r → cond (m && r) (Some s) x ≡ option_and_then (λ t. slice_get all t.index) (find (λ t. reaches t a) (if m then own ∷ rest else rest))
step all a true true s x own rest is later test = rw test (sym is)
step all a true false s x own rest is later test = rw test later
step all a false r s x own rest is later test = later

find_stretch : (file : List ℕ) (all : List Segment) (a : ℕ) → a < 2 ^ 64 → (i : ℕ) (segments : List Segment) → drop i all ≡ segments → find (gives file a) segments ≡ option_and_then (λ t. slice_get all t.index) (find (λ t. reaches t a) (stretches_of file i segments))
unfolding stretches_of
find_stretch file all a below i [] is = refl
find_stretch file all a below i (s ∷ later) is =
    ap (λ b. cond b (Some s) (find (gives file a) later)) (gives_is file i a s below)
    ∙ step all a (is_load s && nat_lt 0 (present file s)) (reaches (stretch_of file i s) a) s (find (gives file a) later) (stretch_of file i s) (stretches_of file (i + 1) later)
    (here i all later s is) (find_stretch file all a below (i + 1) later (drop_next i all later s is)) refl

index_of : (all : List Segment) (stretches : List Stretch) (a : ℕ) (found : Option Stretch) → option_and_then (λ (item : FirstItem). slice_get all item.index) (option_map (λ (s : Stretch). record { index = s.index; class = s.class; shared = is_shared stretches a }) found) ≡ option_and_then (λ t. slice_get all t.index) found
index_of all stretches a None = refl
index_of all stretches a (Some s) = refl

-- The first stretch at an address is that of the first segment that gives the address a byte.
pub are_firsts : (file : List ℕ) (segments : List Segment) (steps : Stepping (Option FirstItem)) → ((a : ℕ) → a < 2 ^ 64 → value_at None steps a ≡ first_item (stretches_of file 0 segments) a) → AreFirsts file segments steps
unfolding first_item first_at
are_firsts file segments steps is a below =
    find_stretch file segments a below 0 segments refl
    ∙ sym (index_of segments (stretches_of file 0 segments) a (find (λ t. reaches t a) (stretches_of file 0 segments)))
    ∙ sym (ap (option_and_then (λ item. slice_get segments item.index)) (is a below))

and_parts : (a b c : Bool) → (a && (b && c)) ≡ true → (a ≡ true) × (b ≡ true) × (c ≡ true)
and_parts true true c is = (refl, refl, is)
and_parts true false c is = cc
and_parts false b c is = cc

-- What is known of a segment that gives an address a byte.
gives_parts : (file : List ℕ) (a : ℕ) (s : Segment) → gives file a s ≡ true → ((s.kind == pt_load) ≡ true) × (nat_le s.address a ≡ true) × (nat_lt a (s.address + present file s) ≡ true)
unfolding gives
gives_parts file a s is = and_parts (s.kind == pt_load) (nat_le s.address a) (nat_lt a (s.address + present file s)) is

pub gives_low : (file : List ℕ) (a : ℕ) (s : Segment) → gives file a s ≡ true → s.address ≤ a
gives_low file a s is = leb-true s.address a (gives_parts file a s is).1

pub gives_end : (file : List ℕ) (a : ℕ) (s : Segment) → gives file a s ≡ true → a < s.address + present file s
gives_end file a s is = ltb-true a (s.address + present file s) (gives_parts file a s is).2

pub gives_high : (file : List ℕ) (a : ℕ) (s : Segment) → gives file a s ≡ true → s.offset + (a - s.address) < length file
unfolding present
gives_high file a s is = omega (arith, gives_low file a s is, gives_end file a s is)

-- The segment gives a byte to all addresses from this one up to its end.
pub gives_more : (file : List ℕ) (a j : ℕ) (s : Segment) → gives file a s ≡ true → a + j < s.address + present file s → gives file (a + j) s ≡ true
unfolding gives
gives_more file a j s is before =
    rw ((gives_parts file a s is).0, le-leb s.address (a + j) (omega (arith, gives_low file a s is)), lt-ltb (a + j) (s.address + present file s) before) refl

pub found_gives : (file : List ℕ) (a : ℕ) (segments : List Segment) (s : Segment) → find (gives file a) segments ≡ Some s → gives file a s ≡ true
found_gives file a segments s is = find_true (gives file a) segments s is

same_branches : {X : Type 0} (b : Bool) (x : X) → (if b then x else x) ≡ x
same_branches true x = refl
same_branches false x = refl

-- An address has a byte if and only if some segment gives it one.
pub none_at : (memory : Memory) (a : ℕ) → find (gives memory.file a) memory.segments ≡ None → byte_at memory a ≡ None
unfolding byte_at
none_at memory a none = rw none (same_branches (nat_lt a address_end) None)

also_by : {X : Type 0} (p q : X → Bool) (y x : X) (b c : Bool) (rest others : Option X) → p y ≡ b → q y ≡ c → cond b (Some y) rest ≡ Some x → q x ≡ true → (rest ≡ Some x → is_some others ≡ true) → is_some (cond c (Some y) others) ≡ true
also_by p q y x b true rest others test other is passes later = refl
also_by p q y x true false rest others test other is passes later =
    let e : y ≡ x = cc in
    let f : false ≡ true = sym other ∙ ap q e ∙ passes in cc
also_by p q y x false false rest others test other is passes later = later is

-- If an element found by one test passes another test, the other test finds an element too.
found_also : {X : Type 0} (p q : X → Bool) (xs : List X) (x : X) → find p xs ≡ Some x → q x ≡ true → is_some (find q xs) ≡ true
found_also p q [] x is passes = cc
found_also p q (y ∷ xs) x is passes =
    also_by p q y x (p y) (q y) (find p xs) (find q xs) refl refl is passes (λ later. found_also p q xs x later passes)

is_some_map : {X Y : Type 0} (f : X → Y) (o : Option X) → is_some o ≡ true → is_some (option_map f o) ≡ true
is_some_map f None is = is
is_some_map f (Some x) is = refl

pub some_at : (memory : Memory) (a j : ℕ) (s : Segment) → find (gives memory.file a) memory.segments ≡ Some s → a + j < 2 ^ 64 → gives memory.file (a + j) s ≡ true → is_some (byte_at memory (a + j)) ≡ true
unfolding byte_at
some_at memory a j s is below given =
    rw (lt-ltb (a + j) (2 ^ 64) below)
    (is_some_map _ (find (gives memory.file (a + j)) memory.segments) (found_also (gives memory.file a) (gives memory.file (a + j)) memory.segments s is given))
