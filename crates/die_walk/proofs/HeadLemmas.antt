-- Adding an entry does not change the others, for `EntryList`; and the entry of a head is that of
-- the picks, for `Walker::add`.
use Rattle.std.proofs.Common.{◌≡◌, ◌+◌, ◌*◌, ◌/◌, ◌%◌, ◌<◌, ◌≤◌, ℕ, zero, suc, Bool, true, List, [], ◌∷◌, ◌++◌, length, map, drop, Option, None, Some, Result, Ok, Err, OnOk, IfOk, refl, sym, ap, ◌∙◌, arith, length-append, get_or}
use Rattle.std.specs.List.{slice_get}
use Rattle.std.proofs.Math.ListN.{drop_of_length-le}
use Rattle.std.proofs.lemmas.List.{map-append}
use Rattle.std.proofs.lemmas.Bool.Decides.{nat_tests}
use Rattle.abbrev_units.specs.declared.unit.Unit.{Unit}
use Rattle.abbrev_units.specs.DebugSections.{DebugSections}
use Rattle.abbrev_units.specs.Picks.{PickFields}
use Rattle.die_walk.specs.EntryTable.{DieFields}
use Rattle.die_walk.specs.Picking.{die_by}
use Rattle.die_walk.specs.declared.entry_heads.Parts.{Parts}
use Rattle.die_walk.specs.declared.heads.Head.{Head}
use Rattle.die_walk.specs.internal.Sites.{SiteFields, WideFields, Homes, HeldEntries}
use Rattle.die_walk.specs.internal.Heads.{homes_of, no_site, site_by, rest_of, with_rest, slim, broad, found_in, held_by, held_in, IsThere, AreThere, IsHead, IsWhole, Says, IsAdded}
use Rattle.sym_edges.specs.Rising.{StandBelow}

pub drop_past : (place : ℕ) (bytes : List ℕ) → length bytes < place → [] ≡ drop place bytes
drop_past place bytes past = sym (drop_of_length-le bytes (omega (arith, past)))

-- A member of a list stays at its index when members are added at the end.
pub get_before : {X : Type 0} (xs ys : List X) (n : ℕ) → n < length xs → slice_get (xs ++ ys) n ≡ slice_get xs n
get_before [] ys n there = absurd (omega arith)
get_before (x ∷ xs) ys zero there = refl
get_before (x ∷ xs) ys (suc n) there = get_before xs ys n (omega arith)

pub get_last : {X : Type 0} (xs : List X) (x : X) → slice_get (xs ++ x ∷ []) (length xs) ≡ Some x
get_last [] x = refl
get_last (y ∷ xs) x = get_last xs x

-- The rest of a head stays the same when sites or wide entries are added.
found_kept : {X : Type 0} (rest : ℕ) (head : Head) (xs more : List X) → (rest_of head ≡ rest → head.number < length xs) → found_in rest head (xs ++ more) ≡ found_in rest head xs
found_kept rest head xs more there = grind (arith, nat_tests, get_before xs more head.number, there)

sites_kept : (homes : Homes) (sites more : List SiteFields) (wides : List WideFields) (heads : List Head) → AreThere (length sites) (length wides) heads → map (held_in homes (sites ++ more) wides) heads ≡ map (held_in homes sites wides) heads
sites_kept homes sites more wides [] there = refl
sites_kept homes sites more wides (head ∷ heads) there =
    ap (λ (site : Option SiteFields). held_by homes head site (found_in 2 head wides) ∷ map (held_in homes (sites ++ more) wides) heads) (found_kept 1 head sites more there.0.0)
    ∙ ap (λ (later : List DieFields). held_in homes sites wides head ∷ later) (sites_kept homes sites more wides heads there.1)

wides_kept : (homes : Homes) (sites : List SiteFields) (wides more : List WideFields) (heads : List Head) → AreThere (length sites) (length wides) heads → map (held_in homes sites (wides ++ more)) heads ≡ map (held_in homes sites wides) heads
wides_kept homes sites wides more [] there = refl
wides_kept homes sites wides more (head ∷ heads) there =
    ap (λ (wide : Option WideFields). held_by homes head (found_in 1 head sites) wide ∷ map (held_in homes sites (wides ++ more)) heads) (found_kept 2 head wides more there.0.1)
    ∙ ap (λ (later : List DieFields). held_in homes sites wides head ∷ later) (wides_kept homes sites wides more heads there.1)

-- A head gives the same entry after its rest was added.
slim_rest : (homes : Homes) (head : Head) (site : SiteFields) (rest number : ℕ) → slim homes (with_rest head rest number) site ≡ slim homes head site
slim_rest homes head site rest number =
    let parent : (head.flags + 16 * rest) % 2 ≡ head.flags % 2 = omega arith in
    let declaration : (head.flags + 16 * rest) / 2 % 2 ≡ head.flags / 2 % 2 = omega arith in
    let link : (head.flags + 16 * rest) / 4 % 4 ≡ head.flags / 4 % 4 = omega arith in
    cc

found_here : {X : Type 0} (rest : ℕ) (head : Head) (xs : List X) → rest_of head ≡ rest → found_in rest head xs ≡ slice_get xs head.number
found_here rest head xs is = grind (arith, nat_tests, is)

found_none : {X : Type 0} (rest other : ℕ) (head : Head) (xs : List X) → rest_of head ≡ other → (other ≡ rest → ⊥) → found_in rest head xs ≡ None
found_none rest other head xs is apart = grind (arith, nat_tests, is, apart)

-- One entry more.
pub pushed_alone : (homes : Homes) (sites : List SiteFields) (wides : List WideFields) (heads : List Head) (head : Head) → head.flags < 16 → map (held_in homes sites wides) (heads ++ head ∷ []) ≡ map (held_in homes sites wides) heads ++ slim homes head no_site ∷ []
pushed_alone homes sites wides heads head small =
    let none : rest_of head ≡ 0 = omega (arith, small) in
    map-append (held_in homes sites wides) heads (head ∷ [])
    ∙ ap (λ (site : Option SiteFields). map (held_in homes sites wides) heads ++ held_by homes head site (found_in 2 head wides) ∷ []) (found_none 1 0 head sites none (λ e. omega (arith, e)))
    ∙ ap (λ (wide : Option WideFields). map (held_in homes sites wides) heads ++ held_by homes head None wide ∷ []) (found_none 2 0 head wides none (λ e. omega (arith, e)))

pub pushed_site : (homes : Homes) (sites more : List SiteFields) (wides : List WideFields) (heads longer : List Head) (head last : Head) (site : SiteFields) (number : ℕ) → AreThere (length sites) (length wides) heads → head.flags < 16 → number ≡ length sites → last ≡ with_rest head 1 number → more ≡ sites ++ site ∷ [] → longer ≡ heads ++ last ∷ []
    → map (held_in homes more wides) longer ≡ map (held_in homes sites wides) heads ++ slim homes head site ∷ []
pushed_site homes sites more wides heads longer head last site number there small is made added long =
    let rest : rest_of last ≡ 1 = omega (arith, small, ap (λ (h : Head). h.flags) made) in
    let place : last.number ≡ length sites = ap (λ (h : Head). h.number) made ∙ is in
    ap (λ (all : List SiteFields). map (held_in homes all wides) longer) added ∙ ap (map (held_in homes (sites ++ site ∷ []) wides)) long ∙ map-append (held_in homes (sites ++ site ∷ []) wides) heads (last ∷ [])
    ∙ ap (λ (front : List DieFields). front ++ held_in homes (sites ++ site ∷ []) wides last ∷ []) (sites_kept homes sites (site ∷ []) wides heads there)
    ∙ ap (λ (found : Option SiteFields). map (held_in homes sites wides) heads ++ held_by homes last found (found_in 2 last wides) ∷ [])
    (found_here 1 last (sites ++ site ∷ []) rest ∙ ap (slice_get (sites ++ site ∷ [])) place ∙ get_last sites site)
    ∙ ap (λ (found : Option WideFields). map (held_in homes sites wides) heads ++ held_by homes last (Some site) found ∷ []) (found_none 2 1 last wides rest (λ e. omega (arith, e)))
    ∙ ap (λ (die : DieFields). map (held_in homes sites wides) heads ++ die ∷ []) (ap (λ (h : Head). slim homes h site) made ∙ slim_rest homes head site 1 number)

pub pushed_wide : (homes : Homes) (sites : List SiteFields) (wides more : List WideFields) (heads longer : List Head) (head last : Head) (wide : WideFields) (number : ℕ) → AreThere (length sites) (length wides) heads → head.flags < 16 → number ≡ length wides → last ≡ with_rest head 2 number → more ≡ wides ++ wide ∷ [] → longer ≡ heads ++ last ∷ []
    → map (held_in homes sites more) longer ≡ map (held_in homes sites wides) heads ++ broad homes head wide ∷ []
pushed_wide homes sites wides more heads longer head last wide number there small is made added long =
    let rest : rest_of last ≡ 2 = omega (arith, small, ap (λ (h : Head). h.flags) made) in
    let place : last.number ≡ length wides = ap (λ (h : Head). h.number) made ∙ is in
    ap (λ (all : List WideFields). map (held_in homes sites all) longer) added ∙ ap (map (held_in homes sites (wides ++ wide ∷ []))) long ∙ map-append (held_in homes sites (wides ++ wide ∷ [])) heads (last ∷ [])
    ∙ ap (λ (front : List DieFields). front ++ held_in homes sites (wides ++ wide ∷ []) last ∷ []) (wides_kept homes sites wides (wide ∷ []) heads there)
    ∙ ap (λ (found : Option WideFields). map (held_in homes sites wides) heads ++ held_by homes last (found_in 1 last sites) found ∷ [])
    (found_here 2 last (wides ++ wide ∷ []) rest ∙ ap (slice_get (wides ++ wide ∷ [])) place ∙ get_last wides wide)
    ∙ ap (λ (die : DieFields). map (held_in homes sites wides) heads ++ record die { tag = wide.tag; origin = wide.origin; spec = wide.spec } ∷ []) (ap (λ (h : Head). slim homes h wide.site) made ∙ slim_rest homes head wide.site 2 number)

-- The rest of each head is still in its list when the lists grow.
wider : (sites more wides longer : ℕ) (head : Head) → IsThere sites wides head → sites ≤ more → wides ≤ longer → IsThere more longer head
wider sites more wides longer head there up on = ((λ e. omega (arith, there.0 e, up)), (λ e. omega (arith, there.1 e, on)))

pub there_wider : (sites more wides longer : ℕ) (heads : List Head) → AreThere sites wides heads → sites ≤ more → wides ≤ longer → AreThere more longer heads
there_wider sites more wides longer [] there up on = tt
there_wider sites more wides longer (head ∷ heads) there up on = (wider sites more wides longer head there.0 up on, there_wider sites more wides longer heads there.1 up on)

there_more : (sites wides : ℕ) (heads : List Head) (head : Head) → AreThere sites wides heads → IsThere sites wides head → AreThere sites wides (heads ++ head ∷ [])
there_more sites wides [] head there here = (here, tt)
there_more sites wides (first ∷ heads) head there here = (there.0, there_more sites wides heads head there.1 here)

pub there_alone : (sites wides : ℕ) (heads : List Head) (head : Head) → AreThere sites wides heads → head.flags < 16 → AreThere sites wides (heads ++ head ∷ [])
there_alone sites wides heads head there small =
    let none : rest_of head ≡ 0 = omega (arith, small) in
    there_more sites wides heads head there ((λ e. absurd (omega (arith, e, none))), (λ e. absurd (omega (arith, e, none))))

pub more_sites : (sites : List SiteFields) (wides : ℕ) (heads : List Head) (site : SiteFields) → AreThere (length sites) wides heads → AreThere (length (sites ++ site ∷ [])) wides heads
more_sites sites wides heads site there = there_wider (length sites) (length (sites ++ site ∷ [])) wides wides heads there (rw length-append (omega arith)) (omega arith)

pub more_wides : (sites : ℕ) (wides : List WideFields) (heads : List Head) (wide : WideFields) → AreThere sites (length wides) heads → AreThere sites (length (wides ++ wide ∷ [])) heads
more_wides sites wides heads wide there = there_wider sites sites (length wides) (length (wides ++ wide ∷ [])) heads there (omega arith) (rw length-append (omega arith))

pub there_site : (sites more : List SiteFields) (wides : ℕ) (heads longer : List Head) (head last : Head) (site : SiteFields) (number : ℕ) → AreThere (length sites) wides heads → head.flags < 16 → number ≡ length sites → last ≡ with_rest head 1 number → more ≡ sites ++ site ∷ [] → longer ≡ heads ++ last ∷ [] → AreThere (length more) wides longer
there_site sites more wides heads longer head last site number there small is made added long =
    let rest : rest_of last ≡ 1 = omega (arith, small, ap (λ (h : Head). h.flags) made) in
    let place : last.number ≡ length sites = ap (λ (h : Head). h.number) made ∙ is in
    rw (added, long) (there_more (length (sites ++ site ∷ [])) wides heads last (more_sites sites wides heads site there)
    ((λ e. rw length-append (omega (arith, place))), (λ e. absurd (omega (arith, e, rest)))))

pub there_wide : (sites : ℕ) (wides more : List WideFields) (heads longer : List Head) (head last : Head) (wide : WideFields) (number : ℕ) → AreThere sites (length wides) heads → head.flags < 16 → number ≡ length wides → last ≡ with_rest head 2 number → more ≡ wides ++ wide ∷ [] → longer ≡ heads ++ last ∷ [] → AreThere sites (length more) longer
there_wide sites wides more heads longer head last wide number there small is made added long =
    let rest : rest_of last ≡ 2 = omega (arith, small, ap (λ (h : Head). h.flags) made) in
    let place : last.number ≡ length wides = ap (λ (h : Head). h.number) made ∙ is in
    rw (added, long) (there_more sites (length (wides ++ wide ∷ [])) heads last (more_wides sites wides heads wide there)
    ((λ e. absurd (omega (arith, e, rest))), (λ e. rw length-append (omega (arith, place)))))

-- The places of entries are those of their heads.
abbrev held : Homes → List SiteFields → List WideFields → List Head → List DieFields
held homes sites wides heads = map (held_in homes sites wides) heads

at_by : (homes : Homes) (head : Head) (site : Option SiteFields) (wide : Option WideFields) → (held_by homes head site wide).at ≡ head.at
at_by homes head site None = refl
at_by homes head site (Some wide) = refl

pub held_places : (homes : Homes) (sites : List SiteFields) (wides : List WideFields) (heads : List Head) → map (λ (d : DieFields). d.at) (held homes sites wides heads) ≡ map (λ (h : Head). h.at) heads
held_places homes sites wides [] = refl
held_places homes sites wides (head ∷ heads) =
    ap (λ (at : ℕ). at ∷ map (λ (d : DieFields). d.at) (held homes sites wides heads)) (at_by homes head (found_in 1 head sites) (found_in 2 head wides))
    ∙ ap (λ (later : List ℕ). head.at ∷ later) (held_places homes sites wides heads)

get_place : (homes : Homes) (sites : List SiteFields) (wides : List WideFields) (heads : List Head) (k : ℕ) (d : DieFields) (h : Head) → k < length heads → (get_or (held homes sites wides heads) k d).at ≡ (get_or heads k h).at
get_place homes sites wides [] k d h there = absurd (omega arith)
get_place homes sites wides (head ∷ heads) zero d h there = at_by homes head (found_in 1 head sites) (found_in 2 head wides)
get_place homes sites wides (head ∷ heads) (suc k) d h there = get_place homes sites wides heads k d h (omega arith)

held_long : (homes : Homes) (sites : List SiteFields) (wides : List WideFields) (heads : List Head) → length (held homes sites wides heads) ≡ length heads
held_long homes sites wides [] = refl
held_long homes sites wides (head ∷ heads) = ap suc (held_long homes sites wides heads)

stand_some : (homes : Homes) (sites : List SiteFields) (wides : List WideFields) (heads : List Head) (h : Head) (bound count : ℕ) → StandBelow (λ (x : Head). x.at) bound count heads → StandBelow (λ (d : DieFields). d.at) bound count (held homes sites wides heads)
stand_some homes sites wides heads h bound count stand =
    let long : length (held homes sites wides heads) ≡ length heads = held_long homes sites wides heads in
    record {
      within = omega (arith, long, stand.within);
      below = λ k d before. omega (arith, get_place homes sites wides heads k d h (omega (arith, before, stand.within)), stand.below k h before);
      above = λ k d after there. omega (arith, get_place homes sites wides heads k d h (omega (arith, there, long)), stand.above k h after (omega (arith, there, long)));
    }

pub stand_held : (homes : Homes) (sites : List SiteFields) (wides : List WideFields) (heads : List Head) (bound count : ℕ) → StandBelow (λ (x : Head). x.at) bound count heads → StandBelow (λ (d : DieFields). d.at) bound count (held homes sites wides heads)
stand_held homes sites wides [] bound count stand = record {
  within = stand.within;
  below = λ k d before. absurd (omega (arith, before, stand.within));
  above = λ k d after there. absurd (omega (arith, there));
}
stand_held homes sites wides (head ∷ heads) bound count stand = stand_some homes sites wides (head ∷ heads) head bound count stand

-- A head that has the values of the picks gives the entry of the picks.
slim_die : (sections : DebugSections) (unit : Unit) (base : Option ℕ) (tag : ℕ) (picks : PickFields) (head : Head) (parts : Parts)
    → IsWhole head parts tag → Says sections unit base picks parts → slim (homes_of sections) head (site_by picks) ≡ die_by sections unit base parts.frame.at parts.frame.parent tag picks
unfolding die_by
slim_die sections unit base tag picks head parts whole says =
    let f1 = whole.says.at in let f2 = whole.says.parent in let f3 = whole.says.declaration in let f4 = whole.says.name_in in let f5 = whole.says.name in
    let f6 = whole.says.linkage_in in let f7 = whole.says.linkage in let f8 = whole.tagged in let f9 = whole.target.0 in let f10 = whole.target.1 in
    let g1 = says.declared in let g2 = says.name in let g3 = says.elsewhere in let g4 = says.linkage in let g5 = says.origin in let g6 = says.spec in
    cc

slim_is : (before after : HeldEntries) (tag : ℕ) (picks : PickFields) (head : Head) (parts : Parts) → IsWhole head parts tag → after.dies ≡ before.dies ++ slim before.homes head (site_by picks) ∷ [] → IsAdded before after parts tag picks
slim_is before after tag picks head parts whole is sections unit base homes says =
    is ∙ ap (λ (h : Homes). before.dies ++ slim h head (site_by picks) ∷ []) homes
    ∙ ap (λ (die : DieFields). before.dies ++ die ∷ []) (slim_die sections unit base tag picks head parts whole says)

broad_die : (sections : DebugSections) (unit : Unit) (base : Option ℕ) (tag : ℕ) (picks : PickFields) (head : Head) (parts : Parts)
    → IsHead head parts → Says sections unit base picks parts → broad (homes_of sections) head (record { tag = tag; origin = parts.links.origin; spec = parts.links.spec; site = site_by picks }) ≡ die_by sections unit base parts.frame.at parts.frame.parent tag picks
unfolding die_by
broad_die sections unit base tag picks head parts head_says says =
    let f1 = head_says.at in let f2 = head_says.parent in let f3 = head_says.declaration in let f4 = head_says.name_in in let f5 = head_says.name in
    let f6 = head_says.linkage_in in let f7 = head_says.linkage in
    let g1 = says.declared in let g2 = says.name in let g3 = says.elsewhere in let g4 = says.linkage in let g5 = says.origin in let g6 = says.spec in
    cc

broad_added : (before after : HeldEntries) (tag : ℕ) (picks : PickFields) (head : Head) (parts : Parts) (wide : WideFields) → IsHead head parts
    → wide ≡ record { tag = tag; origin = parts.links.origin; spec = parts.links.spec; site = site_by picks }
    → after.dies ≡ before.dies ++ broad before.homes head wide ∷ [] → IsAdded before after parts tag picks
broad_added before after tag picks head parts wide head_says made is sections unit base homes says =
    is ∙ ap (λ (w : WideFields). before.dies ++ broad before.homes head w ∷ []) made
    ∙ ap (λ (h : Homes). before.dies ++ broad h head (record { tag = tag; origin = parts.links.origin; spec = parts.links.spec; site = site_by picks }) ∷ []) homes
    ∙ ap (λ (die : DieFields). before.dies ++ die ∷ []) (broad_die sections unit base tag picks head parts head_says says)

-- What holds after a call that succeeded.
pub on_ok : {E : Type 0} {P Q : Type 0} (answer : Result (Prim.Unit {0}) E) → OnOk answer P → (P → Q) → OnOk answer Q
on_ok (Ok done) is more = more is
on_ok (Err fault) is more = tt

pub broad_is : {E : Type 0} (answer : Result (Prim.Unit {0}) E) (before after : HeldEntries) (tag : ℕ) (picks : PickFields) (head : Head) (parts : Parts) (wide : WideFields) → IsHead head parts
    → wide ≡ record { tag = tag; origin = parts.links.origin; spec = parts.links.spec; site = site_by picks }
    → OnOk answer (after.dies ≡ before.dies ++ broad before.homes head wide ∷ []) → OnOk answer (IsAdded before after parts tag picks)
broad_is answer before after tag picks head parts wide head_says made is = on_ok answer is (broad_added before after tag picks head parts wide head_says made)

pub fit_is : {E : Type 0} (answer : Result Bool E) (before after : HeldEntries) (tag : ℕ) (picks : PickFields) (head : Head) (parts : Parts) → IsWhole head parts tag
    → IfOk answer (λ fits. fits ≡ true → after.dies ≡ before.dies ++ slim before.homes head (site_by picks) ∷ []) → IfOk answer (λ fits. fits ≡ true → IsAdded before after parts tag picks)
fit_is (Ok fits) before after tag picks head parts whole is = λ yes_fits. slim_is before after tag picks head parts whole (is yes_fits)
fit_is (Err fault) before after tag picks head parts whole is = tt
