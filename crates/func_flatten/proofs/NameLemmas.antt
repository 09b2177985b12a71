-- The names of functions, and the classes that they give.
use Rattle.std.proofs.Common.{◌≡◌, ℕ, zero, suc, ◌+◌, ◌-◌, ◌<◌, ◌^◌, ◌==◌, Bool, true, false, if◌then◌else◌, map, length, take, get_or, List, [], ◌∷◌, ◌++◌, codes, Option, None, Some, IfSome, arith, refl, sym, ap, subst, ◌∙◌, unwrap_or, Ordering, Less, Equal, Greater}
use Rattle.std.proofs.lemmas.Bool.Decides.{nat_tests}
use Rattle.std.proofs.lemmas.List.{take_more}
use Rattle.std.proofs.lemmas.Map.Text.{is_eq-slice_cmp}
use Rattle.std.proofs.lemmas.Slice.Eq.{bytes_eq-Decides}
use Rattle.std.specs.BTreeMap as tree
use Rattle.std.specs.BTreeMap.{BTreeMap, get, is_at, Updates}
use Rattle.std.specs.Cmp.Lexicographic.{slice_cmp}
use Rattle.std.specs.Global.{Vec}
use Rattle.std.specs.List.{slice_get}
use Rattle.std.specs.Option.{option_map, option_map_or}
use Rattle.std.specs.Map.{lookup}
use Rattle.std.specs.Ordering.{nat_cmp, match_ordering, is_eq}
use Rattle.std.specs.Str.{bytes_eq}
use Rattle.clean_names.specs.Names.{skip}
use Rattle.clean_names.specs.Cleaning.{cleaned, or_omitted}
use Rattle.debug_units.specs.declared.unit_read.UnitRead.{UnitRead}
use Rattle.die_names.specs.declared.name_source.NameRef.{NameRef}
use Rattle.debug_units.specs.UnitEntries.{entry_in, entry_of}
use Rattle.die_walk.specs.EntryTable.{DieFields}
use Rattle.die_names.specs.Names.{around, fronts, front_at, front_in, front_of, dies_of}
use Rattle.die_names.specs.NameRefs.{scopes_of, joined_bytes}
use Rattle.step_maps.specs.declared.stretch.Stretch.{Stretch}
use Rattle.func_flatten.specs.declared.name_keys.NameKey.{NameKey}
use Rattle.func_flatten.specs.declared.name_classes.Bearers.{Bearers}
use Rattle.func_flatten.specs.declared.name_classes.NameClasses.{NameClasses}
use Rattle.func_flatten.specs.internal.Classes.{classed, class_where, last_class}
use Rattle.func_flatten.specs.internal.ScopeFronts.{outer, outer_front, inner_front, place_of}
use Rattle.func_flatten.specs.internal.NameKeys.{kept, kept_upto, kept_more, hash_of, IsKey}
use Rattle.func_flatten.specs.internal.NameClasses.{AreNumbersOf, Stays, rare_at, class_among, class_in, class_at, AreAlike, AreRoots, AreHeld, Grows, AreNamed, AreClassed, IsClass}
use Rattle.func_flatten.proofs.KeyLemmas.{cleaned_kept, kept_joined, kept_none}
use Rattle.func_flatten.proofs.FrontLemmas.{noted_none, noted_more}

fronts_nowhere : (numbers : List ℕ) → fronts [] numbers ≡ []
fronts_nowhere [] = refl
fronts_nowhere (n ∷ numbers) = ap (λ l. l ++ front_at [] n) (fronts_nowhere numbers)

-- The prefix that scopes give to a name.
pub scopes_are : (units : List UnitRead) (name : NameRef) → scopes_of units name ≡ outer_front units name.unit name.entry
unfolding outer outer_front front_of entry_of
scopes_are units name = go (slice_get units name.unit) refl
  where
    by : (part : UnitRead) → slice_get units name.unit ≡ Some part → (d : Option DieFields)
        → option_map_or (front_of units) (option_map (λ die. record { unit = name.unit; entry = name.entry; die = die }) d) [] ≡ fronts part.die.dies (option_map_or (λ die. around part.die.dies name.entry die.parent) d [])
    by part at None = refl
    by part at (Some die) = ap (λ o. front_in (dies_of o) name.entry die.parent) at

    go : (o : Option UnitRead) → slice_get units name.unit ≡ o → option_map_or (front_of units) (entry_in name.unit name.entry o) [] ≡ fronts (dies_of o) (option_map_or (λ die. around (dies_of o) name.entry die.parent) (slice_get (dies_of o) name.entry) [])
    go None at = nowhere (slice_get [] name.entry)
      where
        nowhere : (d : Option DieFields) → [] ≡ fronts [] (option_map_or (λ die. around [] name.entry die.parent) d [])
        nowhere None = refl
        nowhere (Some die) = sym (fronts_nowhere (around [] name.entry die.parent))
    go (Some part) at = by part at (slice_get part.die.dies name.entry)

-- A name after the prefix of its scopes.
pub joined_kept : (units : List UnitRead) (name : NameRef) (joined : Bool) (bytes whole : List ℕ) → whole ≡ joined_bytes units name joined bytes → kept_more (kept (if joined then outer_front units name.unit name.entry else [])) bytes ≡ kept whole
joined_kept units name true bytes whole is = sym (kept_joined (outer_front units name.unit name.entry) bytes) ∙ ap (λ front. kept (front ++ bytes)) (sym (scopes_are units name)) ∙ ap kept (sym is)
joined_kept units name false bytes whole is = sym (kept_joined [] bytes) ∙ ap kept (sym is)

-- `<name omitted>` is kept as it is.
pub omitted_is : kept (codes "<name omitted>") ≡ codes "<name omitted>"
unfolding kept kept_upto skip
omitted_is = refl

-- A name that is joined with no prefix.
pub unjoined : (units : List UnitRead) (key : NameKey) (name : NameRef) (joined : Bool) → joined ≡ false → IsKey units key (kept []) → IsKey units key (kept (if joined then outer_front units name.unit name.entry else []))
unjoined units key name joined is of = subst (λ (t : Bool). IsKey units key (kept (if t then outer_front units name.unit name.entry else []))) (sym is) of

-- The key of a cleaned name.
pub key_clean : (units : List UnitRead) (key : NameKey) (bytes : List ℕ) → (length (kept bytes) == 0) ≡ false → IsKey units key (kept bytes) → IsKey units key (cleaned bytes)
key_clean units key bytes some is = subst (IsKey units key) (go (kept bytes) some ∙ sym (cleaned_kept bytes)) is
  where
    go : (l : List ℕ) → (length l == 0) ≡ false → l ≡ or_omitted l
    go [] some = absurd (grind (arith, nat_tests, some))
    go (b ∷ l) some = refl

left_out : (l : List ℕ) → (length l == 0) ≡ true → kept_more l (codes "<name omitted>") ≡ or_omitted l
left_out [] none = ap (λ k. kept_more k (codes "<name omitted>")) (sym kept_none) ∙ sym (kept_joined [] (codes "<name omitted>")) ∙ omitted_is
left_out (b ∷ l) none = absurd (grind (arith, nat_tests, none))

pub key_omitted : (units : List UnitRead) (key : NameKey) (bytes : List ℕ) → (length (kept bytes) == 0) ≡ true → IsKey units key (kept_more (kept bytes) (codes "<name omitted>")) → IsKey units key (cleaned bytes)
key_omitted units key bytes none is = subst (IsKey units key) (left_out (kept bytes) none ∙ sym (cleaned_kept bytes)) is

-- ---- The classes of names.

abbrev entry_at : List (Vec ℕ × ℕ) → List ℕ → Option ℕ
entry_at entries text = lookup (λ k. is_eq (slice_cmp nat_cmp text k.items)) entries

inserted : (entries : List (Vec ℕ × ℕ)) (key : Vec ℕ) (number : ℕ) (text : List ℕ) → entry_at (tree.insert_entry (λ x y. slice_cmp nat_cmp x.items y.items) entries key number) text ≡ (if bytes_eq key.items text then Some number else entry_at entries text)
inserted [] key number text = grind (arith, nat_tests, is_eq-slice_cmp text key.items, (bytes_eq-Decides text key.items).0, (bytes_eq-Decides text key.items).1, (bytes_eq-Decides key.items text).0, (bytes_eq-Decides key.items text).1)
inserted (e ∷ entries) key number text = go (slice_cmp nat_cmp key.items e.0.items) refl (inserted entries key number text)
  where
    later : List (Vec ℕ × ℕ)
    later = tree.insert_entry (λ x y. slice_cmp nat_cmp x.items y.items) entries key number

    go : (o : Ordering) → slice_cmp nat_cmp key.items e.0.items ≡ o → entry_at later text ≡ (if bytes_eq key.items text then Some number else entry_at entries text)
        → entry_at (match_ordering o ((key, number) ∷ e ∷ entries) ((e.0, number) ∷ entries) (e ∷ later)) text ≡ (if bytes_eq key.items text then Some number else entry_at (e ∷ entries) text)
    go Less at later_is = grind (arith, nat_tests, is_eq-slice_cmp text key.items, (bytes_eq-Decides text key.items).0, (bytes_eq-Decides text key.items).1, (bytes_eq-Decides key.items text).0, (bytes_eq-Decides key.items text).1)
    go Equal at later_is = grind (arith, nat_tests, sym (ap is_eq at) ∙ is_eq-slice_cmp key.items e.0.items, is_eq-slice_cmp text e.0.items, (bytes_eq-Decides key.items e.0.items).0, (bytes_eq-Decides text e.0.items).0, (bytes_eq-Decides text e.0.items).1, (bytes_eq-Decides key.items text).0, (bytes_eq-Decides key.items text).1)
    go Greater at later_is = grind (arith, nat_tests, later_is, sym (ap is_eq at) ∙ is_eq-slice_cmp key.items e.0.items, is_eq-slice_cmp text e.0.items, (bytes_eq-Decides key.items e.0.items).1, (bytes_eq-Decides text e.0.items).0, (bytes_eq-Decides key.items text).0)

-- The stored texts with one more.
rare_is : (old new : BTreeMap (Vec ℕ) ℕ) (key : Vec ℕ) (number : ℕ) → new.entries ≡ tree.insert_entry (λ x y. slice_cmp nat_cmp x.items y.items) old.entries key number → (text : List ℕ) → rare_at new text ≡ (if bytes_eq key.items text then Some number else rare_at old text)
unfolding rare_at
rare_is old new key number added text = ap (λ l. entry_at l text) added ∙ inserted old.entries key number text

pub rare_numbers : (name : ℕ → List ℕ) (old new : BTreeMap (Vec ℕ) ℕ) (key : Vec ℕ) (number : ℕ) → new.entries ≡ tree.insert_entry (λ x y. slice_cmp nat_cmp x.items y.items) old.entries key number → key.items ≡ name number → AreNumbersOf name (rare_at old) → AreNumbersOf name (rare_at new)
rare_numbers name old new key number added is all text n found = grind (arith, nat_tests, rare_is old new key number added text, (bytes_eq-Decides key.items text).0, is, all text n, found)

pub rare_stays : (old new : BTreeMap (Vec ℕ) ℕ) (key : Vec ℕ) (number : ℕ) → new.entries ≡ tree.insert_entry (λ x y. slice_cmp nat_cmp x.items y.items) old.entries key number → None ≡ rare_at old key.items → Stays (rare_at old) (rare_at new)
rare_stays old new key number added none text n found = grind (arith, nat_tests, rare_is old new key number added text, (bytes_eq-Decides key.items text).0, none, found)

pub rare_has : (old new : BTreeMap (Vec ℕ) ℕ) (key : Vec ℕ) (number : ℕ) → new.entries ≡ tree.insert_entry (λ x y. slice_cmp nat_cmp x.items y.items) old.entries key number → rare_at new key.items ≡ Some number
rare_has old new key number added = grind (arith, nat_tests, rare_is old new key number added key.items, (bytes_eq-Decides key.items key.items).1 refl)

-- The functions of one more hash.
first_is : (old new : BTreeMap ℕ Bearers) (hash : ℕ) (one : Bearers) → Updates nat_cmp old new hash (Some one) → (other : ℕ) → get nat_cmp new other ≡ (if hash == other then Some one else get nat_cmp old other)
first_is old new hash one updates other = updates.0 other ∙ ap (λ (t : Bool). if t then Some one else get nat_cmp old other) (grind (arith, nat_tests))

alike_more : (name : ℕ → List ℕ) (old new : BTreeMap ℕ Bearers) (hash : ℕ) (one : Bearers) → AreAlike name old → Updates nat_cmp old new hash (Some one) → name one.last ≡ name one.first → hash_of (name one.first) ≡ hash → AreAlike name new
unfolding AreAlike
alike_more name old new hash one all updates same is other b found = go (hash == other) refl (sym (first_is old new hash one updates other) ∙ found)
  where
    go : (t : Bool) → (hash == other) ≡ t → (if t then Some one else get nat_cmp old other) ≡ Some b → (name b.last ≡ name b.first) × (hash_of (name b.first) ≡ other)
    go true at so = (let here : one ≡ b = cc in let there : hash ≡ other = grind (arith, nat_tests, at) in subst (λ (c : Bearers). (name c.last ≡ name c.first) × (hash_of (name c.first) ≡ other)) here (same, is ∙ there))
    go false at so = all other b so

alike_at : (name : ℕ → List ℕ) (firsts : BTreeMap ℕ Bearers) (hash : ℕ) (one : Bearers) → AreAlike name firsts → get nat_cmp firsts hash ≡ Some one → (name one.last ≡ name one.first) × (hash_of (name one.first) ≡ hash)
unfolding AreAlike
alike_at name firsts hash one all at = all hash one at

-- The classes stay if those of the names with one hash stay.
first_stays : (name : ℕ → List ℕ) (old new : BTreeMap ℕ Bearers) (rare : BTreeMap (Vec ℕ) ℕ) (hash : ℕ) (one : Bearers) → Updates nat_cmp old new hash (Some one)
    → ((text : List ℕ) (n : ℕ) → class_among name rare text (get nat_cmp old hash) ≡ Some n → class_among name rare text (Some one) ≡ Some n) → Stays (class_in name old rare) (class_in name new rare)
first_stays name old new rare hash one updates here text n found =
    ap (class_among name rare text) (first_is old new hash one updates (hash_of text)) ∙ go (hash == hash_of text) refl
  where
    go : (t : Bool) → (hash == hash_of text) ≡ t → class_among name rare text (if t then Some one else get nat_cmp old (hash_of text)) ≡ Some n
    go true at = (let same : hash ≡ hash_of text = grind (arith, nat_tests, at) in here text n (ap (λ h. class_among name rare text (get nat_cmp old h)) same ∙ found))
    go false at = found

-- The class of a name that the functions of its hash give.
among_is : (name : ℕ → List ℕ) (firsts : BTreeMap ℕ Bearers) (rare : BTreeMap (Vec ℕ) ℕ) (text : List ℕ) (o : Option Bearers) → get nat_cmp firsts (hash_of text) ≡ o → class_in name firsts rare text ≡ class_among name rare text o
among_is name firsts rare text o at = ap (class_among name rare text) at

pub now_first : (old new : BTreeMap ℕ Bearers) (hash : ℕ) (one : Bearers) → Updates nat_cmp old new hash (Some one) → get nat_cmp new hash ≡ Some one
now_first old new hash one updates = grind (arith, nat_tests, first_is old new hash one updates hash)

pub grows : (units : List UnitRead) (name : ℕ → List ℕ) (old new : NameClasses) → AreHeld units name old → AreAlike name new.firsts → AreNumbersOf name (rare_at new.rare) → new.roots ≡ old.roots → Stays (class_in name old.firsts old.rare) (class_in name new.firsts new.rare) → Grows units name old new
unfolding class_at AreRoots
grows units name old new held alike numbers same stays = record {
  held = record {
    alike = alike;
    numbers = numbers;
    roots = λ unit entry n few low is. stays (kept (inner_front units unit entry)) n (held.roots unit entry n few low (ap (λ m. get nat_cmp m (place_of unit entry)) (sym same) ∙ is));
  };
  stays = stays;
}

pub grows_twice : (units : List UnitRead) (name : ℕ → List ℕ) (old mid new : NameClasses) → Grows units name old mid → Grows units name mid new → Grows units name old new
grows_twice units name old mid new one two = record { held = two.held; stays = λ text n is. two.stays text n (one.stays text n is) }

-- A function is the first one with its hash.
pub grows_first : (units : List UnitRead) (name : ℕ → List ℕ) (old : NameClasses) (firsts : BTreeMap ℕ Bearers) (number hash : ℕ) (one : Bearers) → AreHeld units name old → hash ≡ hash_of (name number) → None ≡ get nat_cmp old.firsts hash → one ≡ record { first = number; last = number; differ = false } → Updates nat_cmp old.firsts firsts hash (Some one)
    → Grows units name old (record { alloc = old.alloc; firsts = firsts; rare = old.rare; roots = old.roots })
grows_first units name old firsts number hash one held is none made updates =
    grows units name old _ held (alike_more name old.firsts firsts hash one held.alike updates (ap name (ap (λ (b : Bearers). b.last) made ∙ sym (ap (λ (b : Bearers). b.first) made))) (ap (λ (b : Bearers). hash_of (name b.first)) made ∙ sym is)) held.numbers refl
    (first_stays name old.firsts firsts old.rare hash one updates (λ text n found. absurd (let wrong : None ≡ Some n = ap (class_among name old.rare text) none ∙ found in cc)))

-- A function has the same name as the first one with its hash.
pub grows_again : (units : List UnitRead) (name : ℕ → List ℕ) (old : NameClasses) (firsts : BTreeMap ℕ Bearers) (number hash : ℕ) (one more : Bearers) → AreHeld units name old → Some one ≡ get nat_cmp old.firsts hash → one.differ ≡ false → bytes_eq (name number) (name one.last) ≡ true → more ≡ record { first = one.first; last = number; differ = false } → Updates nat_cmp old.firsts firsts hash (Some more)
    → Grows units name old (record { alloc = old.alloc; firsts = firsts; rare = old.rare; roots = old.roots })
grows_again units name old firsts number hash one more held at alone same made updates =
    let known = alike_at name old.firsts hash one held.alike (sym at) in
    let begins : more.first ≡ one.first = ap (λ (b : Bearers). b.first) made in
    let ends : name more.last ≡ name one.first = ap (λ (b : Bearers). name b.last) made ∙ (bytes_eq-Decides (name number) (name one.last)).0 same ∙ known.0 in
    grows units name old _ held (alike_more name old.firsts firsts hash more held.alike updates (ends ∙ ap name (sym begins)) (ap (λ k. hash_of (name k)) begins ∙ known.1)) held.numbers refl
    (first_stays name old.firsts firsts old.rare hash more updates (λ text n found. ap (λ (b : Bearers). class_among name old.rare text (Some b)) made ∙ grind (arith, nat_tests, at, alone, found)))

-- The class of a name whose functions all have it.
pub class_alone : (name : ℕ → List ℕ) (old new : NameClasses) (number hash : ℕ) (more : Bearers) → hash ≡ hash_of (name number) → Updates nat_cmp old.firsts new.firsts hash (Some more) → more.differ ≡ false → name more.first ≡ name number → class_at name new (name number) ≡ Some more.first
unfolding class_at
class_alone name old new number hash more is updates alone same =
    among_is name new.firsts new.rare (name number) (Some more) (ap (get nat_cmp new.firsts) (sym is) ∙ now_first old.firsts new.firsts hash more updates)
    ∙ grind (arith, nat_tests, alone, (bytes_eq-Decides (name more.first) (name number)).1 same)

pub class_again : (units : List UnitRead) (name : ℕ → List ℕ) (old new : NameClasses) (number hash : ℕ) (one more : Bearers) → AreHeld units name old → hash ≡ hash_of (name number) → Some one ≡ get nat_cmp old.firsts hash → bytes_eq (name number) (name one.last) ≡ true → more ≡ record { first = one.first; last = number; differ = false } → Updates nat_cmp old.firsts new.firsts hash (Some more)
    → class_at name new (name number) ≡ Some one.first
class_again units name old new number hash one more held is at same made updates =
    let begins : more.first ≡ one.first = ap (λ (b : Bearers). b.first) made in
    let ends : name one.first ≡ name number = sym ((bytes_eq-Decides (name number) (name one.last)).0 same ∙ (alike_at name old.firsts hash one held.alike (sym at)).0) in
    class_alone name old new number hash more is updates (ap (λ (b : Bearers). b.differ) made) (ap name begins ∙ ends) ∙ ap Some begins

-- Names with one hash differ.
pub class_differs : (name : ℕ → List ℕ) (new : NameClasses) (text : List ℕ) (hash : ℕ) (one : Bearers) → hash ≡ hash_of text → get nat_cmp new.firsts hash ≡ Some one → one.differ ≡ true → class_at name new text ≡ rare_at new.rare text
unfolding class_at
class_differs name new text hash one is at differ =
    among_is name new.firsts new.rare text (Some one) (ap (get nat_cmp new.firsts) (sym is) ∙ at)
    ∙ grind (arith, nat_tests, differ)

pub grows_rare : (units : List UnitRead) (name : ℕ → List ℕ) (old new : NameClasses) → AreHeld units name old → new.firsts ≡ old.firsts → new.roots ≡ old.roots → Stays (rare_at old.rare) (rare_at new.rare) → AreNumbersOf name (rare_at new.rare) → Grows units name old new
grows_rare units name old new held firsts roots stays numbers =
    grows units name old new held (subst (AreAlike name) (sym firsts) held.alike) numbers roots (λ text n found. ap (λ m. class_in name m new.rare text) firsts ∙ go text n (get nat_cmp old.firsts (hash_of text)) found)
  where
    go : (text : List ℕ) (n : ℕ) (o : Option Bearers) → class_among name old.rare text o ≡ Some n → class_among name new.rare text o ≡ Some n
    go text n None found = found
    go text n (Some b) found = grind (arith, nat_tests, found, stays text n)

-- The text of the first name with a hash is stored.
stored : (name : ℕ → List ℕ) (firsts : BTreeMap ℕ Bearers) (old new : BTreeMap (Vec ℕ) ℕ) (key : Vec ℕ) (hash : ℕ) (one : Bearers) → get nat_cmp firsts hash ≡ Some one → one.differ ≡ false → hash_of key.items ≡ hash → new.entries ≡ tree.insert_entry (λ x y. slice_cmp nat_cmp x.items y.items) old.entries key one.first
    → Stays (class_in name firsts old) (class_in name firsts new)
stored name firsts old new key hash one at alone is added text n found = go (get nat_cmp firsts (hash_of text)) refl found
  where
    other : (b : Bearers) → get nat_cmp firsts (hash_of text) ≡ Some b → b.differ ≡ true → bytes_eq key.items text ≡ true → ⊥
    other b there differ same =
        (let here : hash ≡ hash_of text = sym is ∙ ap hash_of ((bytes_eq-Decides key.items text).0 same) in
        let both : Some b ≡ Some one = sym there ∙ ap (get nat_cmp firsts) (sym here) ∙ at in
        let one_is : b ≡ one = cc in
        let wrong : true ≡ false = sym differ ∙ ap (λ (c : Bearers). c.differ) one_is ∙ alone in
        absurd (cc))

    go : (o : Option Bearers) → get nat_cmp firsts (hash_of text) ≡ o → class_among name old text o ≡ Some n → class_among name new text o ≡ Some n
    go None there so = so
    go (Some b) there so = grind (arith, nat_tests, so, rare_is old new key one.first added text, other b there)

pub grows_parted : (units : List UnitRead) (name : ℕ → List ℕ) (old : NameClasses) (firsts : BTreeMap ℕ Bearers) (rare : BTreeMap (Vec ℕ) ℕ) (key : Vec ℕ) (hash : ℕ) (one : Bearers) → AreHeld units name old → get nat_cmp old.firsts hash ≡ Some one → one.differ ≡ false → key.items ≡ name one.last
    → rare.entries ≡ tree.insert_entry (λ x y. slice_cmp nat_cmp x.items y.items) old.rare.entries key one.first → Updates nat_cmp old.firsts firsts hash (Some (record { first = one.first; last = one.last; differ = true }))
    → Grows units name old (record { alloc = old.alloc; firsts = firsts; rare = rare; roots = old.roots })
grows_parted units name old firsts rare key hash one held at alone is added updates =
    let known = alike_at name old.firsts hash one held.alike at in
    let text_is : key.items ≡ name one.first = is ∙ known.0 in
    grows units name old _ held (alike_more name old.firsts firsts hash _ held.alike updates known.0 known.1) (rare_numbers name old.rare rare key one.first added text_is held.numbers) refl
    (λ text n found. first_stays name old.firsts firsts rare hash _ updates (λ t m so. grind (arith, nat_tests, at, alone, so, rare_is old.rare rare key one.first added t, text_is, (bytes_eq-Decides (name one.first) t).0, (bytes_eq-Decides key.items t).1)) text n
    (stored name old.firsts old.rare rare key hash one at alone (ap hash_of text_is ∙ known.1) added text n found))

-- ---- The classes of roots.

pub root_known : (units : List UnitRead) (name : ℕ → List ℕ) (classes : NameClasses) (key : NameKey) (text : List ℕ) (unit entry place class : ℕ) → AreHeld units name classes → IsKey units key text → Some (record { unit = unit; entry = entry }) ≡ key.root → unit < 2 ^ 32 → entry < 2 ^ 32 → place ≡ place_of unit entry → Some class ≡ get nat_cmp classes.roots place → class_at name classes text ≡ Some class
unfolding AreRoots
root_known units name classes key text unit entry place class held of root few low at found =
    let full = subst (λ o. IfSome o (λ r. (length text ≡ 65536) × (text ≡ kept (inner_front units r.unit r.entry)))) (sym root) of.root_is in
    ap (class_at name classes) full.1 ∙ held.roots unit entry class few low (ap (get nat_cmp classes.roots) (sym at) ∙ sym found)

pub grows_root : (units : List UnitRead) (name : ℕ → List ℕ) (old mid : NameClasses) (roots : BTreeMap ℕ ℕ) (key : NameKey) (text : List ℕ) (unit entry place class : ℕ) → Grows units name old mid → IsKey units key text → Some (record { unit = unit; entry = entry }) ≡ key.root → entry < 2 ^ 32 → place ≡ place_of unit entry → class_at name mid text ≡ Some class → Updates nat_cmp mid.roots roots place (Some class)
    → Grows units name old (record { alloc = mid.alloc; firsts = mid.firsts; rare = mid.rare; roots = roots })
unfolding class_at AreRoots
grows_root units name old mid roots key text unit entry place class more of root low at is updates =
    let full = subst (λ o. IfSome o (λ r. (length text ≡ 65536) × (text ≡ kept (inner_front units r.unit r.entry)))) (sym root) of.root_is in
    record {
      held = record {
        alike = more.held.alike;
        numbers = more.held.numbers;
        roots = noted_more _ mid.roots roots unit entry place class more.held.roots low at (ap (class_in name mid.firsts mid.rare) (sym full.1) ∙ is) updates;
      };
      stays = more.stays;
    }

-- Before the first name.
pub held_none : (units : List UnitRead) (name : ℕ → List ℕ) (classes : NameClasses) → classes.firsts.entries ≡ [] → classes.rare.entries ≡ [] → classes.roots.entries ≡ [] → AreHeld units name classes
unfolding AreAlike AreRoots rare_at
held_none units name classes firsts rare roots = record {
  alike = λ hash b is. (let none : None ≡ Some b = sym (ap (λ es. lookup (is_at (nat_cmp hash)) es) firsts) ∙ is in absurd (cc));
  numbers = λ text n is. (let none : None ≡ Some n = sym (ap (λ es. entry_at es text) rare) ∙ is in absurd (cc));
  roots = noted_none _ classes.roots roots;
}

pub held_numbers : (units : List UnitRead) (name : ℕ → List ℕ) (classes : NameClasses) → AreHeld units name classes → AreNumbersOf name (class_at name classes)
unfolding class_at
held_numbers units name classes held text n found = go (get nat_cmp classes.firsts (hash_of text)) found
  where
    go : (o : Option Bearers) → class_among name classes.rare text o ≡ Some n → name n ≡ text
    go None so = absurd (cc)
    go (Some b) so = grind (arith, nat_tests, so, held.numbers text n, (bytes_eq-Decides (name b.first) text).0)

-- Stretches that have classes.
class_grows : (old new : List ℕ → Option ℕ) (name : ℕ → List ℕ) (items named : List Stretch) → Stays old new → AreClassed old name items named → AreClassed new name items named
class_grows old new name [] [] stays all = tt
class_grows old new name [] (t ∷ named) stays all = absurd all
class_grows old new name (s ∷ items) [] stays all = absurd all
class_grows old new name (s ∷ items) (t ∷ named) stays all = (all.0, stays (name s.index) t.class all.1, class_grows old new name items named stays all.2)

class_more : (number : List ℕ → Option ℕ) (name : ℕ → List ℕ) (items named : List Stretch) (s t : Stretch) → AreClassed number name items named → t ≡ record { first = s.first; last = s.last; index = s.index; class = t.class } → number (name s.index) ≡ Some t.class → AreClassed number name (items ++ s ∷ []) (named ++ t ∷ [])
class_more number name [] [] s t all same is = (same, is, tt)
class_more number name [] (u ∷ named) s t all same is = absurd all
class_more number name (u ∷ items) [] s t all same is = absurd all
class_more number name (u ∷ items) (v ∷ named) s t all same is = (all.0, all.1, class_more number name items named s t all.2 same is)

pub class_next : (old new : List ℕ → Option ℕ) (name : ℕ → List ℕ) (items named more : List Stretch) (i : ℕ) (s t : Stretch) (class : ℕ) → i < length items → s ≡ get_or items i s → Stays old new → t ≡ record { first = s.first; last = s.last; index = s.index; class = class } → more ≡ named ++ t ∷ [] → new (name s.index) ≡ Some class → AreClassed old name (take i items) named
    → AreClassed new name (take (i + 1) items) more
class_next old new name items named more i s t class inside at stays same is has all =
    let number : t.class ≡ class = ap (λ (u : Stretch). u.class) same in
    subst (AreClassed new name (take (i + 1) items)) (sym is)
    (subst (λ (l : List Stretch). AreClassed new name l (named ++ t ∷ [])) (sym (take_more items i s inside ∙ ap (λ u. take i items ++ u ∷ []) (sym at)))
    (class_more new name (take i items) named s t (class_grows old new name (take i items) named stays all)
    (same ∙ ap (λ (c : ℕ). record { first = s.first; last = s.last; index = s.index; class = c }) (sym number))
    (has ∙ ap Some (sym number))))

class_there : (number : List ℕ → Option ℕ) (name : ℕ → List ℕ) (items named : List Stretch) (k : ℕ) (t : Stretch) → AreClassed number name items named → slice_get named k ≡ Some t → number (name t.index) ≡ Some t.class
class_there number name [] [] k t all at = absurd (cc)
class_there number name [] (u ∷ named) k t all at = absurd all
class_there number name (s ∷ items) [] k t all at = absurd all
class_there number name (s ∷ items) (u ∷ named) zero t all at =
    (let same : u ≡ t = cc in
    subst (λ (v : Stretch). number (name v.index) ≡ Some v.class) same (ap (λ (n : ℕ). number (name n)) (ap (λ (v : Stretch). v.index) all.0) ∙ all.1))
class_there number name (s ∷ items) (u ∷ named) (suc k) t all at = class_there number name items named k t all.2 at

pub class_ends : (number : List ℕ → Option ℕ) (name : ℕ → List ℕ) (items named : List Stretch) (k class : ℕ) → Some class ≡ last_class named k → AreClassed number name items named → number (name k) ≡ Some class
class_ends number name items named k class is all = go (slice_get named (length named - 1)) refl (sym is)
  where
    go : (o : Option Stretch) → slice_get named (length named - 1) ≡ o → class_where k o ≡ Some class → number (name k) ≡ Some class
    go None at found = absurd (cc)
    go (Some t) at found = grind (arith, nat_tests, found, class_there number name items named (length named - 1) t all at)

pub stays_same : (number : List ℕ → Option ℕ) → Stays number number
stays_same number text n is = is

-- The classes of functions.
abbrev pub class_of : (List ℕ → Option ℕ) → (ℕ → List ℕ) → ℕ → ℕ
class_of number name k = unwrap_or (number (name k)) 0

named_all : (number : List ℕ → Option ℕ) (name : ℕ → List ℕ) (items named : List Stretch) → AreNumbersOf name number → AreClassed number name items named → AreNamed name (class_of number name) items
named_all number name [] named of all = tt
named_all number name (s ∷ items) [] of all = absurd all
named_all number name (s ∷ items) (t ∷ named) of all =
    (let class : class_of number name s.index ≡ t.class = ap (λ (o : Option ℕ). unwrap_or o 0) all.1 in
    (ap name class ∙ of (name s.index) t.class all.1, named_all number name items named of all.2))

classes_are : (number : List ℕ → Option ℕ) (name : ℕ → List ℕ) (items named : List Stretch) → AreClassed number name items named → named ≡ map (classed (class_of number name)) items
classes_are number name [] [] all = refl
classes_are number name [] (t ∷ named) all = absurd all
classes_are number name (s ∷ items) [] all = absurd all
classes_are number name (s ∷ items) (t ∷ named) all =
    (let class : t.class ≡ class_of number name s.index = sym (ap (λ (o : Option ℕ). unwrap_or o 0) all.1) in
    ap (λ (u : Stretch). u ∷ named) (all.0 ∙ ap (λ (c : ℕ). record { first = s.first; last = s.last; index = s.index; class = c }) class)
    ∙ ap (λ l. classed (class_of number name) s ∷ l) (classes_are number name items named all.2))

pub classes_by : (name : ℕ → List ℕ) (items named : List Stretch) → (number : List ℕ → Option ℕ) × AreNumbersOf name number × AreClassed number name items named → (class : ℕ → ℕ) × IsClass name class items × (named ≡ map (classed class) items)
classes_by name items named found = (
  class_of found.0 name,
  record { alike = λ i j same. ap (λ (l : List ℕ). unwrap_or (found.0 l) 0) same; named = named_all found.0 name items named found.1 found.2 },
  classes_are found.0 name items named found.2,
)
