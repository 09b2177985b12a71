-- The addresses of code, to which one range after the other is added.
use Rattle.std.proofs.Common.{◌≡◌, ℕ, ◌+◌, ◌-◌, ◌<◌, ◌≤◌, ◌^◌, Bool, true, false, List, [], ◌∷◌, ◌++◌, Option, Some, length, drop, get_or, find, min, refl, sym, ◌∙◌, ap, arith, if◌then◌else◌}
use Rattle.std.specs.Prelude.{◌&&◌, ◌||◌, nat_le, nat_lt, is_some}
use Rattle.std.specs.List.{list_any}
use Rattle.std.specs.Option.{option_map}
use Rattle.std.proofs.lemmas.List.Folds.{list_any-append}
use Rattle.std.proofs.lemmas.Bool.Decides.{nat_tests}
use Rattle.step_maps.specs.declared.stretch.Stretch.{Stretch}
use Rattle.step_maps.specs.Covers.{reaches, first_at, first_item}
use Rattle.core_file.specs.declared.segments.Segment.{Segment}
use Rattle.core_file.specs.Code.{is_executable, has_code, has_page}
use Rattle.core_file.specs.LoadedImages.{LoadedImage, page_down, page_up}
use Rattle.core_file.proofs.PageLemmas.{any_next, any_past}

outside : (c b rest : Bool) → b ≡ false → (c || rest) ≡ (c || (b || rest))
outside c b rest none = rw none refl

-- A range without addresses.
pub range_empty : (c rest : Bool) (low high a : ℕ) → high ≤ low → (c || rest) ≡ (c || ((nat_le low a && nat_lt a high) || rest))
range_empty c rest low high a empty = outside c (nat_le low a && nat_lt a high) rest (grind (arith, nat_tests))

pub range_past : (c rest : Bool) (low high a : ℕ) → 2 ^ 64 ≤ low → a < 2 ^ 64 → (c || rest) ≡ (c || ((nat_le low a && nat_lt a high) || rest))
range_past c rest low high a past below = outside c (nat_le low a && nat_lt a high) rest (grind (arith, nat_tests))

or_assoc : (x y z w : Bool) → y ≡ z → ((x || (y || false)) || w) ≡ (x || (z || w))
or_assoc true y z w is = refl
or_assoc false true z w is = rw (sym is) refl
or_assoc false false z w is = rw (sym is) refl

in_range : (low high last a : ℕ) → a < 2 ^ 64 → low < high → last ≡ min (high - 1) (2 ^ 64 - 1) → (nat_le low a && nat_le a last) ≡ (nat_le low a && nat_lt a high)
in_range low high last a below some is = ap (λ b. nat_le low a && b) (grind (arith, nat_tests))

pub range_added : (code : List Stretch) (s : Stretch) (low high a : ℕ) (rest : Bool) → low < high → s.first ≡ low → s.last ≡ min (high - 1) (2 ^ 64 - 1) → a < 2 ^ 64 → (list_any (λ t. reaches t a) (code ++ s ∷ []) || rest) ≡ (list_any (λ t. reaches t a) code || ((nat_le low a && nat_lt a high) || rest))
range_added code s low high a rest some first last below =
    ap (λ c. c || rest) (list_any-append (λ t. reaches t a) code (s ∷ []))
    ∙ or_assoc (list_any (λ t. reaches t a) code) (reaches s a) (nat_le low a && nat_lt a high) rest
    (ap (λ f. nat_le f a && nat_le a s.last) first ∙ in_range low high s.last a below some last)

-- A segment that is not executable adds nothing.
pub load_other : (c rest : Bool) (s : Segment) (a : ℕ) → is_executable s ≡ false → (c || rest) ≡ (c || (has_code a s || rest))
unfolding has_code
load_other c rest s a none = rw none refl

pub load_added : (s : Segment) (a : ℕ) (c old rest : Bool) → is_executable s ≡ true → (c || rest) ≡ (old || ((nat_le s.address a && nat_lt a (s.address + s.memory_size)) || rest)) → (c || rest) ≡ (old || (has_code a s || rest))
unfolding has_code
load_added s a c old rest is added = rw is added

pub page_other : (c rest : Bool) (start : ℕ) (image : LoadedImage) (s : Segment) (a : ℕ) → is_executable s ≡ false → (c || rest) ≡ (c || (has_page start image a s || rest))
unfolding has_page
page_other c rest start image s a none = rw none refl

and_none : (b c : Bool) → (b && (false && c)) ≡ false
and_none true c = refl
and_none false c = refl

pub page_none : (c rest : Bool) (start : ℕ) (image : LoadedImage) (s : Segment) (a : ℕ) → s.memory_size ≡ 0 → (c || rest) ≡ (c || (has_page start image a s || rest))
unfolding has_page
page_none c rest start image s a none =
    let n : nat_lt 0 s.memory_size ≡ false = grind (arith, nat_tests) in
    outside c _ rest (rw n (and_none (is_executable s) (nat_le (page_down (start + s.address)) (a + page_down image.first) && nat_lt (a + page_down image.first) (page_up (start + s.address + s.memory_size)))))

shifted : (low high first a : ℕ) → (nat_le low (a + first) && nat_lt (a + first) high) ≡ (nat_le (low - first) a && nat_lt a (high - first))
shifted low high first a =
    let l : nat_le low (a + first) ≡ nat_le (low - first) a = grind (arith, nat_tests) in
    let h : nat_lt (a + first) high ≡ nat_lt a (high - first) = grind (arith, nat_tests) in
    rw (l, h) refl

pub page_added : (start : ℕ) (image : LoadedImage) (s : Segment) (low high a : ℕ) (c old rest : Bool) → is_executable s ≡ true → 0 < s.memory_size → low ≡ page_down (start + s.address) - page_down image.first → high ≡ page_up (start + s.address + s.memory_size) - page_down image.first → (c || rest) ≡ (old || ((nat_le low a && nat_lt a high) || rest)) → (c || rest) ≡ (old || (has_page start image a s || rest))
unfolding has_page
page_added start image s low high a c old rest is some lows highs added =
    let n : nat_lt 0 s.memory_size ≡ true = grind (arith, nat_tests) in
    rw (is, n, shifted (page_down (start + s.address)) (page_up (start + s.address + s.memory_size)) (page_down image.first) a, ← lows, ← highs) added

-- One segment is added, and the others are left.
pub code_step : {X : Type 0} (f : X → Bool) (xs : List X) (k : ℕ) (d : X) (c old : Bool) → k < length xs → (c || list_any f (drop (k + 1) xs)) ≡ (old || (f (get_or xs k d) || list_any f (drop (k + 1) xs))) → (c || list_any f (drop (k + 1) xs)) ≡ (old || list_any f (drop k xs))
code_step f xs k d c old inside is = is ∙ ap (λ r. old || r) (sym (any_next f xs k d inside))

or_none : (c : Bool) → (c || false) ≡ c
or_none true = refl
or_none false = refl

pub code_end : {X : Type 0} (f : X → Bool) (xs : List X) (k : ℕ) (c : Bool) → length xs ≤ k → (c || list_any f (drop k xs)) ≡ c
code_end f xs k c past = ap (λ r. c || r) (any_past f xs k past) ∙ or_none c

some_by : {X Y : Type 0} (f : X → Y) (x : X) (b : Bool) (found : Option X) (any : Bool) → is_some (option_map f found) ≡ any → is_some (option_map f (if b then Some x else found)) ≡ (b || any)
some_by f x true found any is = refl
some_by f x false found any is = is

-- An address has a first stretch if some stretch contains it.
some_first : {X Y : Type 0} (p : X → Bool) (f : X → Y) (xs : List X) → is_some (option_map f (find p xs)) ≡ list_any p xs
some_first p f [] = refl
some_first p f (x ∷ xs) = some_by f x (p x) (find p xs) (list_any p xs) (some_first p f xs)

pub first_some : (items : List Stretch) (a : ℕ) → is_some (first_item items a) ≡ list_any (λ s. reaches s a) items
unfolding first_item first_at
first_some items a = some_first (λ s. reaches s a) _ items
