use Rattle.std.proofs.Common.{◌≡◌, ℕ, zero, suc, ◌+◌, ◌<◌, ◌≤◌, ◌==◌, ◌||◌, ◌&&◌, Bool, true, false, not, if◌then◌else◌, List, [], ◌∷◌, ◌++◌, length, take, drop, map, filter, nat_lt, nat_le, get_or, refl, sym, ◌∙◌, ap, arith, subst, append_assoc}
use Rattle.std.proofs.lemmas.Grind.{common_steps}
use Rattle.std.proofs.lemmas.Bool.Decides.{nat_tests}
use Rattle.std.proofs.lemmas.List.{map-append, append-nil, take-append-drop, drop_all, drop_more}
use Rattle.std.proofs.lemmas.List.Folds.{list_any-append}
use Rattle.std.proofs.lemmas.List.Elements.{filter-append}
use Rattle.std.specs.List.{list_all, list_any}
use Rattle.std.specs.Ordering.{nat_cmp, is_lt}
use Rattle.std.specs.List.Sorted.{ties, IsNonDecreasingBy}
use Rattle.sym_edges.specs.Addresses.{Range}
use Rattle.range_set.specs.Members.{holds_any}
use Rattle.range_set.specs.Canonical.{IsCanonical}
use Rattle.elf_sections.specs.declared.symbols.Symbol.{Symbol}
use Rattle.elf_sections.specs.Symbols.{SymbolParts, symbol_view}
use Rattle.func_flatten.specs.Publics.{with_number, ascending, has, IsRising, stands_at, addresses, names_of, public_named, public_at, PublicParts, publics_where, is_inside, is_covered, publics}
use Rattle.func_flatten.specs.declared.piece.Piece.{Piece}
use Rattle.func_flatten.specs.internal.Grouping.{IsOrdered, starts_elsewhere, group_public, AgreeAt}

-- A number at or below the lower bound of a list is not in the list.
above_has : (a b : ℕ) (xs : List ℕ) → list_all (λ x. nat_lt a x) xs ≡ true → b ≤ a → has b xs ≡ false
above_has a b [] all le = refl
above_has a b (x ∷ xs) all le = grind (arith, nat_tests, above_has a b xs, all, le)

-- Strictly ascending lists with the same members are equal.
pub unique : (xs ys : List ℕ) → IsRising xs → IsRising ys → ((a : ℕ) → has a xs ≡ has a ys) → xs ≡ ys
unique [] [] up down same = refl
unique [] (y ∷ ys) up down same = absurd (grind (arith, nat_tests, same y))
unique (x ∷ xs) [] up down same = absurd (grind (arith, nat_tests, same x))
unique (x ∷ xs) (y ∷ ys) up down same =
    let first : x ≡ y = grind (arith, nat_tests, above_has y x ys down.0, above_has x y xs up.0, same x, same y) in
    let rest = unique xs ys up.1 down.1 (λ a. grind (arith, nat_tests, first, above_has x a xs up.0, above_has y a ys down.0, same a)) in
    cc

-- Two tests that agree choose the same members.
filter_same : {X : Type 0} (p q : X → Bool) (xs : List X) → ((x : X) → p x ≡ q x) → filter p xs ≡ filter q xs
filter_same p q [] same = refl
filter_same p q (x ∷ xs) same = grind (arith, nat_tests, same x, filter_same p q xs same)

-- A test of the values that a function gives for the members.
filter_seen : {X Y : Type 0} (f : X → Y) (p : Y → Bool) (xs : List X) → filter p (map f xs) ≡ map f (filter (λ x. p (f x)) xs)
filter_seen f p [] = refl
filter_seen f p (x ∷ xs) = grind (arith, nat_tests, filter_seen f p xs)

-- Neither of two numbers is below the other exactly if they are equal.
tied : (a b : ℕ) → (not (is_lt (nat_cmp a b)) && not (is_lt (nat_cmp b a))) ≡ (b == a)
tied a b = grind (arith, nat_tests)

-- A stable sort by address keeps the order of the symbols with one address.
pub groups_kept : (xs ys : List Symbol) (x : Symbol) → filter (ties (λ p q. is_lt (nat_cmp p.address q.address)) x) ys ≡ filter (ties (λ p q. is_lt (nat_cmp p.address q.address)) x) xs → filter (stands_at x.address) (map symbol_view ys) ≡ filter (stands_at x.address) (map symbol_view xs)
groups_kept xs ys x stable =
    let seen = λ (zs : List Symbol). filter_seen symbol_view (stands_at x.address) zs
    ∙ ap (map symbol_view) (sym (filter_same (ties (λ (p q : Symbol). is_lt (nat_cmp p.address q.address)) x) (λ (s : Symbol). s.address == x.address) zs (λ s. tied x.address s.address))) in
    seen ys ∙ ap (map symbol_view) stable ∙ sym (seen xs)

-- A sorted list is in order.
all_from : (a : ℕ) (xs : List Symbol) → ((j : ℕ) (d : Symbol) → j < length xs → a ≤ (get_or xs j d).address) → list_all (λ t. nat_le a t.address) (map symbol_view xs) ≡ true
all_from a [] all = refl
all_from a (x ∷ xs) all = grind (arith, nat_tests, all 0 x (omega arith), all_from a xs (λ j d inside. all (suc j) d (omega arith)))

pub ordered : (xs : List Symbol) → IsNonDecreasingBy (λ s. s.address) xs → IsOrdered (map symbol_view xs)
ordered [] rises = tt
ordered (x ∷ xs) rises = (
  all_from x.address xs (λ j d inside. rises 0 (suc j) d (omega arith) (omega arith)),
  ordered xs (λ i j d le inside. rises (suc i) (suc j) d (omega arith) (omega arith)),
)

and_first : (t u : Bool) → (t && u) ≡ true → t ≡ true
and_first true u is = refl
and_first false u is = is

-- Inserting a number adds it to the members.
has_with : (a b : ℕ) (xs : List ℕ) → has b (with_number a xs) ≡ ((a == b) || has b xs)
unfolding with_number
has_with a b [] = refl
has_with a b (x ∷ xs) = grind (arith, nat_tests, has_with a b xs)

has_ascending : (b : ℕ) (xs : List ℕ) → has b (ascending xs) ≡ has b xs
unfolding ascending
has_ascending b [] = refl
has_ascending b (x ∷ xs) = has_with x b (ascending xs) ∙ ap (λ t. (x == b) || t) (has_ascending b xs)

-- Inserting a number above a lower bound keeps the bound.
bound_with : (low a : ℕ) (xs : List ℕ) → nat_lt low a ≡ true → list_all (λ y. nat_lt low y) xs ≡ true → list_all (λ y. nat_lt low y) (with_number a xs) ≡ true
unfolding with_number
bound_with low a [] here all = grind (arith, nat_tests, here)
bound_with low a (x ∷ xs) here all = grind (arith, nat_tests, here, all, bound_with low a xs here)

bound_ascending : (low : ℕ) (xs : List ℕ) → list_all (λ y. nat_lt low y) xs ≡ true → list_all (λ y. nat_lt low y) (ascending xs) ≡ true
unfolding ascending
bound_ascending low [] all = refl
bound_ascending low (x ∷ xs) all = grind (arith, nat_tests, all, bound_with low x (ascending xs), bound_ascending low xs)

-- A smaller number is also a lower bound.
bound_lower : (low high : ℕ) (xs : List ℕ) → low < high → list_all (λ y. nat_lt high y) xs ≡ true → list_all (λ y. nat_lt low y) xs ≡ true
bound_lower low high [] less all = refl
bound_lower low high (x ∷ xs) less all = grind (arith, nat_tests, less, all, bound_lower low high xs less)

rising_with : (a : ℕ) (xs : List ℕ) → IsRising xs → IsRising (with_number a xs)
unfolding with_number
rising_with a [] up = (refl, tt)
rising_with a (x ∷ xs) up = grind (arith, nat_tests, up.0, up.1, bound_lower a x xs, bound_with x a xs, rising_with a xs up.1)

pub rising_ascending : (xs : List ℕ) → IsRising (ascending xs)
unfolding ascending
rising_ascending [] = tt
rising_ascending (x ∷ xs) = rising_with x (ascending xs) (rising_ascending xs)

map_same : (f g : ℕ → PublicParts) (xs : List ℕ) → ((x : ℕ) → f x ≡ g x) → map f xs ≡ map g xs
map_same f g [] same = refl
map_same f g (x ∷ xs) same = grind (arith, same x, map_same f g xs same)

-- All symbols are above an address.
unfoldable pub above : ℕ → List SymbolParts → Bool
above a symbols = list_all (λ y. nat_lt a y) (map (λ s. s.address) symbols)

lower_all : (a b : ℕ) (symbols : List SymbolParts) → nat_lt a b ≡ true → list_all (λ u. nat_le b u.address) symbols ≡ true → above a symbols ≡ true
unfolding above
lower_all a b [] less low = refl
lower_all a b (s ∷ symbols) less low = grind (arith, nat_tests, less, low, lower_all a b symbols less)

-- If symbols are in order and the first has another address, all of them are above the address.
above_rest : (a : ℕ) (later : List SymbolParts) → IsOrdered later → list_all (λ u. nat_le a u.address) later ≡ true → starts_elsewhere a later ≡ true → above a later ≡ true
unfolding above
above_rest a [] up low other = refl
above_rest a (s ∷ later) up low other = grind (arith, nat_tests, low, other, up.0, lower_all a s.address later)

-- The address of a group, and its symbols.
has_group : (a b : ℕ) (group : List SymbolParts) → list_all (stands_at a) group ≡ true → has b (map (λ s. s.address) group) ≡ (nat_lt 0 (length group) && (a == b))
has_group a b [] all = refl
has_group a b (s ∷ group) all = grind (arith, nat_tests, all, has_group a b group)

group_kept : (a : ℕ) (group : List SymbolParts) → list_all (stands_at a) group ≡ true → filter (stands_at a) group ≡ group
group_kept a [] all = refl
group_kept a (s ∷ group) all = grind (arith, nat_tests, all, group_kept a group)

group_left : (a b : ℕ) (group : List SymbolParts) → nat_lt a b ≡ true → list_all (stands_at a) group ≡ true → filter (stands_at b) group ≡ []
group_left a b [] less all = refl
group_left a b (s ∷ group) less all = grind (arith, nat_tests, less, all, group_left a b group less)

above_left : (a : ℕ) (later : List SymbolParts) → above a later ≡ true → filter (stands_at a) later ≡ []
unfolding above
above_left a [] all = refl
above_left a (s ∷ later) all = grind (arith, nat_tests, all, above_left a later)

-- The addresses of a group, and of symbols above it.
pub addresses_group : (a : ℕ) (group later : List SymbolParts) → 0 < length group → list_all (stands_at a) group ≡ true → above a later ≡ true → addresses (group ++ later) ≡ a ∷ addresses later
unfolding addresses above
addresses_group a group later some all high =
    let seen = λ (s : SymbolParts). s.address in
    unique (ascending (map seen (group ++ later))) (a ∷ ascending (map seen later))
    (rising_ascending (map seen (group ++ later)))
    (bound_ascending a (map seen later) high, rising_ascending (map seen later))
    (λ b. grind (arith, nat_tests, has_ascending b (map seen (group ++ later)), map-append seen group later, list_any-append (λ x. x == b) (map seen group) (map seen later), has_group a b group all, some, has_ascending b (map seen later)))

-- The records of symbols above a group do not depend on the group.
records_above : (a : ℕ) (group later : List SymbolParts) (bs : List ℕ) → list_all (stands_at a) group ≡ true → list_all (λ y. nat_lt a y) bs ≡ true → map (public_at (group ++ later)) bs ≡ map (public_at later) bs
unfolding public_at
records_above a group later [] all high = refl
records_above a group later (b ∷ bs) all high =
    let none = group_left a b group (and_first (nat_lt a b) (list_all (λ y. nat_lt a y) bs) high) all in
    grind (arith, nat_tests, high, records_above a group later bs all, filter-append (stands_at b) group later, none)

high_addresses : (a : ℕ) (later : List SymbolParts) → above a later ≡ true → list_all (λ y. nat_lt a y) (addresses later) ≡ true
unfolding addresses above
high_addresses a later high = bound_ascending a (map (λ s. s.address) later) high

all_filtered : (p q : ℕ → Bool) (xs : List ℕ) → list_all p xs ≡ true → list_all p (filter q xs) ≡ true
all_filtered p q [] all = refl
all_filtered p q (x ∷ xs) all = grind (arith, nat_tests, all, all_filtered p q xs)

-- The record of a group comes before the records of the symbols above it.
pub publics_group : (test : ℕ → Bool) (a : ℕ) (group later : List SymbolParts) → 0 < length group → list_all (stands_at a) group ≡ true → above a later ≡ true → publics_where test (group ++ later) ≡ (if test a then [] else public_named a (names_of group) ∷ []) ++ publics_where test later
unfolding publics_where public_at
publics_group test a group later some all high =
    let q = λ (b : ℕ). not (test b) in
    let rest = records_above a group later (filter q (addresses later)) all (all_filtered (λ b. nat_lt a b) q (addresses later) (high_addresses a later high)) in
    grind (arith, nat_tests, addresses_group a group later some all high, filter-append (stands_at a) group later, group_kept a group all, above_left a later high, append-nil group, rest)

-- The records depend only on the symbols of each address.
has_filter : (a : ℕ) (symbols : List SymbolParts) → has a (map (λ s. s.address) symbols) ≡ nat_lt 0 (length (filter (stands_at a) symbols))
has_filter a [] = refl
has_filter a (s ∷ symbols) = grind (arith, nat_tests, has_filter a symbols)

pub publics_same : (test : ℕ → Bool) (xs ys : List SymbolParts) → ((a : ℕ) → filter (stands_at a) xs ≡ filter (stands_at a) ys) → publics_where test xs ≡ publics_where test ys
unfolding publics_where addresses public_at
publics_same test xs ys same =
    let seen = λ (s : SymbolParts). s.address in
    let q = λ (b : ℕ). not (test b) in
    let members = λ (b : ℕ). has_ascending b (map seen xs) ∙ has_filter b xs ∙ ap (λ l. nat_lt 0 (length l)) (same b) ∙ sym (has_filter b ys) ∙ sym (has_ascending b (map seen ys)) in
    ap (λ l. map (public_at xs) (filter q l)) (unique (ascending (map seen xs)) (ascending (map seen ys)) (rising_ascending (map seen xs)) (rising_ascending (map seen ys)) members)
    ∙ map_same (public_at xs) (public_at ys) (filter q (ascending (map seen ys))) (λ b. ap (λ l. public_named b (names_of l)) (same b))

ordered_later : (group later : List SymbolParts) → IsOrdered (group ++ later) → IsOrdered later
ordered_later [] later up = up
ordered_later (s ∷ group) later up = ordered_later group later up.1

all_later : (p : SymbolParts → Bool) (group later : List SymbolParts) → list_all p (group ++ later) ≡ true → list_all p later ≡ true
all_later p [] later all = all
all_later p (s ∷ group) later all = grind (arith, nat_tests, all, all_later p group later)

low_later : (a : ℕ) (group later : List SymbolParts) → 0 < length group → list_all (stands_at a) group ≡ true → IsOrdered (group ++ later) → list_all (λ u. nat_le a u.address) later ≡ true
low_later a [] later some all up = absurd (omega arith)
low_later a (s ∷ group) later some all up =
    grind (arith, nat_tests, all, all_later (λ u. nat_le s.address u.address) group later up.0)

-- A group at the start of symbols in order, and the symbols after it.
first_group : (test : ℕ → Bool) (a : ℕ) (group later symbols : List SymbolParts) → symbols ≡ group ++ later → 0 < length group → list_all (stands_at a) group ≡ true → IsOrdered symbols → starts_elsewhere a later ≡ true → (publics_where test symbols ≡ (if test a then [] else public_named a (names_of group) ∷ []) ++ publics_where test later) × IsOrdered later
first_group test a group later symbols is some all up other =
    let parted : IsOrdered (group ++ later) = subst IsOrdered is up in
    let high = above_rest a later (ordered_later group later parted) (low_later a group later some all parted) other in
    (ap (publics_where test) is ∙ publics_group test a group later some all high, ordered_later group later parted)

abbrev pub view : List Symbol → List SymbolParts
view symbols = map symbol_view symbols

view_parts : (n : ℕ) (symbols : List Symbol) → view symbols ≡ view (take n symbols) ++ view (drop n symbols)
view_parts n symbols = ap view (sym (take-append-drop n symbols)) ∙ map-append symbol_view (take n symbols) (drop n symbols)

-- One group of the symbols that are left.
pub record IsGroup (test : ℕ → Bool) (covered : Bool) (left : List Symbol) (count : ℕ) : Type 0 where
  pub some : 0 < count
  pub publics : publics_where test (view left) ≡ group_public covered (view (take count left)) ++ publics_where test (view (drop count left))
  pub ordered : IsOrdered (view (drop count left))

group_some : (test : ℕ → Bool) (covered : Bool) (x : Symbol) (xs : List Symbol) (count : ℕ) → IsOrdered (view (x ∷ xs)) → list_all (stands_at x.address) (view (take count (x ∷ xs))) ≡ true → starts_elsewhere x.address (view (drop count (x ∷ xs))) ≡ true → covered ≡ test x.address → IsGroup test covered (x ∷ xs) count
group_some test covered x xs zero up all other known = absurd (grind (arith, nat_tests, other))
group_some test covered x xs (suc n) up all other known =
    let found = first_group test x.address (view (take (suc n) (x ∷ xs))) (view (drop (suc n) (x ∷ xs))) (view (x ∷ xs)) (view_parts (suc n) (x ∷ xs)) (omega arith) all up other in
    record { some = omega arith; publics = rw known found.0; ordered = found.1 }

moved_on : (sorted : List Symbol) (at count : ℕ) → drop (at + count) sorted ≡ drop count (drop at sorted)
moved_on sorted at count = grind (arith, common_steps)

front_is : (sorted : List Symbol) (at : ℕ) (d : Symbol) → at < length sorted → drop at sorted ≡ get_or sorted at d ∷ drop (at + 1) sorted
front_is sorted at d inside = drop_more sorted at d inside

-- One group is done.
pub group_step : (test : ℕ → Bool) (covered : Bool) (sorted left : List Symbol) (at count : ℕ) (d : Symbol) → at < length sorted → left ≡ drop at sorted → IsOrdered (view (drop at sorted)) → list_all (stands_at (get_or sorted at d).address) (view (take count left)) ≡ true → starts_elsewhere (get_or sorted at d).address (view (drop count left)) ≡ true → covered ≡ test (get_or sorted at d).address → IsGroup test covered (drop at sorted) count
group_step test covered sorted left at count d inside part up all other known =
    let front = front_is sorted at d inside in
    rw front (group_some test covered (get_or sorted at d) (drop (at + 1) sorted) count (rw front at up) (rw (part, front) at all) (rw (part, front) at other) known)

holds_joined : (xs ys : List Range) (a : ℕ) → holds_any (xs ++ ys) a ≡ (holds_any xs a || holds_any ys a)
holds_joined [] ys a = refl
holds_joined (x ∷ xs) ys a = grind (arith, nat_tests, holds_joined xs ys a)

agree_same : (xs : List Range) (symbols : List SymbolParts) → AgreeAt xs xs symbols
agree_same xs [] = tt
agree_same xs (s ∷ symbols) = (refl, agree_same xs symbols)

agree_drop : (xs ys : List Range) (symbols : List Symbol) (n : ℕ) → AgreeAt xs ys (view symbols) → AgreeAt xs ys (view (drop n symbols))
agree_drop xs ys symbols zero agree = agree
agree_drop xs ys [] (suc n) agree = tt
agree_drop xs ys (s ∷ symbols) (suc n) agree = agree_drop xs ys symbols n agree.1

agree_above : (xs ys zs : List Range) (a : ℕ) (symbols : List SymbolParts) → ((b : ℕ) → a ≤ b → holds_any xs b ≡ holds_any ys b) → list_all (λ t. nat_le a t.address) symbols ≡ true → AgreeAt ys zs symbols → AgreeAt xs zs symbols
agree_above xs ys zs a [] same all agree = tt
agree_above xs ys zs a (s ∷ symbols) same all agree = grind (arith, nat_tests, all, same s.address, agree.0, agree_above xs ys zs a symbols same)

low_first : (x : SymbolParts) (symbols : List SymbolParts) → IsOrdered (x ∷ symbols) → list_all (λ t. nat_le x.address t.address) (x ∷ symbols) ≡ true
low_first x symbols up = grind (arith, nat_tests, up.0)

-- What is left of the spans and of the symbols.
pub record Goes (spans rest : List Range) (left : List Symbol) : Type 0 where
  pub canonical : IsCanonical rest
  pub ordered : IsOrdered (view left)
  pub agree : AgreeAt rest spans (view left)

pub goes_begin : (spans : List Range) (sorted : List Symbol) → IsCanonical spans → IsOrdered (view sorted) → Goes spans spans sorted
goes_begin spans sorted canonical up = record { canonical = canonical; ordered = up; agree = agree_same spans (view sorted) }

-- The first symbol is covered exactly if the spans that are left have its address.
pub covers_here : (spans rest : List Range) (sorted : List Symbol) (at : ℕ) (d : Symbol) (covered : Bool) → at < length sorted → Goes spans rest (drop at sorted) → covered ≡ holds_any rest (get_or sorted at d).address → covered ≡ holds_any spans (get_or sorted at d).address
covers_here spans rest sorted at d covered inside goes known = let agree = rw (front_is sorted at d inside) at goes.agree in known ∙ agree.0

pub goes_on : (spans rest beyond : List Range) (sorted : List Symbol) (at count : ℕ) (d : Symbol) (test : ℕ → Bool) (covered : Bool) → at < length sorted → Goes spans rest (drop at sorted) → IsCanonical beyond → ((b : ℕ) → (get_or sorted at d).address ≤ b → holds_any beyond b ≡ holds_any rest b) → IsGroup test covered (drop at sorted) count → Goes spans beyond (drop (at + count) sorted)
goes_on spans rest beyond sorted at count d test covered inside goes canonical same group =
    let front = front_is sorted at d inside in
    let low = low_first (symbol_view (get_or sorted at d)) (view (drop (at + 1) sorted)) (rw front at goes.ordered) in
    let all = agree_above beyond rest spans (get_or sorted at d).address (view (get_or sorted at d ∷ drop (at + 1) sorted)) same low (rw front at goes.agree) in
    record {
      canonical = canonical;
      ordered = rw (moved_on sorted at count) group.ordered;
      agree = rw (moved_on sorted at count, front) (agree_drop beyond spans (get_or sorted at d ∷ drop (at + 1) sorted) count all);
    }

-- The record of a group is added after the earlier records.
pub made_more : (test : ℕ → Bool) (covered : Bool) (made more whole : List PublicParts) (sorted group : List Symbol) (at count : ℕ) → IsGroup test covered (drop at sorted) count → group ≡ take count (drop at sorted) → more ≡ made ++ group_public covered (view group) → made ++ publics_where test (view (drop at sorted)) ≡ whole → more ++ publics_where test (view (drop (at + count) sorted)) ≡ whole
made_more test covered made more whole sorted group at count g taken added is =
    ap (λ l. l ++ publics_where test (view (drop (at + count) sorted))) (added ∙ ap (λ l. made ++ group_public covered (view l)) taken)
    ∙ append_assoc made (group_public covered (view (take count (drop at sorted)))) (publics_where test (view (drop (at + count) sorted)))
    ∙ ap (λ l. made ++ (group_public covered (view (take count (drop at sorted))) ++ publics_where test (view l))) (moved_on sorted at count)
    ∙ ap (λ l. made ++ l) (sym g.publics) ∙ is

none_publics : (test : ℕ → Bool) → publics_where test [] ≡ []
unfolding publics_where addresses ascending
none_publics test = refl

pub made_all : (test : ℕ → Bool) (made whole : List PublicParts) (sorted : List Symbol) (at : ℕ) → length sorted ≤ at → made ++ publics_where test (view (drop at sorted)) ≡ whole → made ≡ whole
made_all test made whole sorted at past is =
    sym (append-nil made) ∙ ap (λ l. made ++ l) (sym (none_publics test)) ∙ ap (λ l. made ++ publics_where test (view l)) (sym (drop_all at sorted past)) ∙ is

-- Spans above an address do not have it.
before_all : (r : Range) (spans : List Range) (a : ℕ) → IsCanonical (r ∷ spans) → a < r.start → holds_any (r ∷ spans) a ≡ false
before_all r [] a canonical below = grind (arith, nat_tests, below)
before_all r (s ∷ spans) a canonical below = grind (arith, nat_tests, below, canonical.0, canonical.1, before_all s spans a canonical.2)

pub found_span : (r : Range) (spans : List Range) (a : ℕ) → IsCanonical (r ∷ spans) → a < r.end → nat_le r.start a ≡ holds_any (r ∷ spans) a
found_span r spans a canonical below = grind (arith, nat_tests, below, before_all r spans a canonical)

pub span_push : (spans more : List Range) (start end : ℕ) → more ≡ spans ++ record { start = start; end = end } ∷ [] → (a : ℕ) → holds_any more a ≡ (holds_any spans a || (nat_le start a && nat_lt a end))
span_push spans more start end added a = grind (arith, nat_tests, added, holds_joined spans (record { start = start; end = end } ∷ []) a)

pub span_none : (spans : List Range) (start end : ℕ) → end ≤ start → (a : ℕ) → holds_any spans a ≡ (holds_any spans a || (nat_le start a && nat_lt a end))
span_none spans start end none a = grind (arith, nat_tests, none)

test_same : (f g : ℕ → Bool) (symbols : List SymbolParts) → ((a : ℕ) → f a ≡ g a) → publics_where f symbols ≡ publics_where g symbols
unfolding publics_where
test_same f g symbols same = ap (map (public_at symbols)) (filter_same (λ a. not (f a)) (λ a. not (g a)) (addresses symbols) (λ a. ap not (same a)))

-- The records of the sorted symbols are those of the symbols.
pub publics_are : (pieces : List Piece) (spans set : List Range) (sorted held : List Symbol) (symbols : List SymbolParts) (made : List PublicParts) → ((a : ℕ) → holds_any set a ≡ holds_any spans a) → ((a : ℕ) → holds_any spans a ≡ list_any (is_inside a) pieces) → ((a : ℕ) → filter (stands_at a) (view sorted) ≡ filter (stands_at a) (view held)) → view held ≡ symbols → made ≡ publics_where (holds_any set) (view sorted) → made ≡ publics pieces symbols
unfolding publics is_covered
publics_are pieces spans set sorted held symbols made one two groups are is =
    is ∙ test_same (holds_any set) (λ a. list_any (is_inside a) pieces) (view sorted) (λ a. one a ∙ two a)
    ∙ publics_same (λ a. list_any (is_inside a) pieces) (view sorted) (view held) groups ∙ ap (publics_where (λ a. list_any (is_inside a) pieces)) are

-- The addresses ascend, and are those of the symbols.
pub rising_addresses : (symbols : List SymbolParts) → IsRising (addresses symbols)
unfolding addresses
rising_addresses symbols = rising_ascending (map (λ s. s.address) symbols)

pub has_addresses : (symbols : List SymbolParts) (a : ℕ) → has a (addresses symbols) ≡ has a (map (λ s. s.address) symbols)
unfolding addresses
has_addresses symbols a = has_ascending a (map (λ s. s.address) symbols)
