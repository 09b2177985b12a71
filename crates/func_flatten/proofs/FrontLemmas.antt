-- The prefixes that scopes give to names, and the keys of these prefixes.
use Rattle.std.proofs.Common.{◌≡◌, ℕ, zero, suc, ◌^◌, ◌<◌, ◌≤◌, ◌==◌, Bool, true, false, cond, List, [], ◌∷◌, ◌++◌, codes, Option, None, Some, refl, sym, ap, subst, ◌∙◌, arith, append-nil}
use Rattle.std.proofs.lemmas.Bool.{cond-true, cond-false}
use Rattle.std.proofs.lemmas.Bool.Decides.{nat_tests}
use Rattle.std.proofs.lemmas.List.{append_assoc}
use Rattle.std.specs.BTreeMap.{BTreeMap, get, is_at, Updates}
use Rattle.std.specs.List.{slice_get}
use Rattle.std.specs.Map.{lookup}
use Rattle.std.specs.Option.{option_map_or}
use Rattle.std.specs.Ordering.{nat_cmp}
use Rattle.die_walk.specs.EntryKinds.{is_scope}
use Rattle.die_walk.specs.EntryTable.{DieFields}
use Rattle.debug_units.specs.declared.unit_read.EntryRef.{EntryRef}
use Rattle.debug_units.specs.declared.unit_read.UnitRead.{UnitRead}
use Rattle.die_names.specs.Names.{around, scope_name, scope_front, front_at, fronts, dies_of}
use Rattle.debug_units.specs.UnitEntries.{die_from, die_in}
use Rattle.func_flatten.specs.declared.name_keys.NameKey.{NameKey}
use Rattle.func_flatten.specs.internal.ScopeFronts.{unit_dies, outer, outer_front, inner_front, place_of, AreNoted}
use Rattle.func_flatten.specs.internal.NameKeys.{kept, kept_more, IsKey, AreFronts, IsHalfway}
use Rattle.func_flatten.proofs.KeyLemmas.{kept_joined}

-- ---- Entries.

die_by : (o : Option UnitRead) (entry : ℕ) → die_from entry o ≡ slice_get (dies_of o) entry
die_by None entry = refl
die_by (Some part) entry = refl

pub entry_is : (units : List UnitRead) (s : EntryRef) → die_in units s ≡ slice_get (unit_dies units s.unit) s.entry
entry_is units s = die_by (slice_get units s.unit) s.entry

-- ---- The entries around an entry.

around_none : (dies : List DieFields) (limit : ℕ) → around dies limit None ≡ []
unfolding around
around_none dies zero = refl
around_none dies (suc limit) = around_none dies limit

around_past : (dies : List DieFields) (limit number : ℕ) → limit ≤ number → around dies limit (Some number) ≡ []
unfolding around
around_past dies zero number past = refl
around_past dies (suc limit) number past = grind (arith, nat_tests, around_past dies limit number, past)

-- The entries around an entry, given its parent.
around_found : (dies : List DieFields) (limit number : ℕ) (o : Option DieFields) → number < limit → slice_get dies number ≡ o → around dies limit (Some number) ≡ option_map_or (λ d. number ∷ around dies number d.parent) o []
unfolding around
around_found dies zero number o below is = absurd (omega arith)
around_found dies (suc limit) number o below is = grind (arith, nat_tests, around_found dies limit number o, below, is)

pub outer_nowhere : (dies : List DieFields) (entry : ℕ) → None ≡ slice_get dies entry → outer dies entry ≡ []
unfolding outer
outer_nowhere dies entry is = ap (λ o. option_map_or (λ d. around dies entry d.parent) o []) (sym is)

pub outer_is : (dies : List DieFields) (entry : ℕ) (d : DieFields) → Some d ≡ slice_get dies entry → outer dies entry ≡ around dies entry d.parent
unfolding outer
outer_is dies entry d is = ap (λ o. option_map_or (λ d. around dies entry d.parent) o []) (sym is)

pub outer_top : (dies : List DieFields) (entry : ℕ) (d : DieFields) → Some d ≡ slice_get dies entry → None ≡ d.parent → outer dies entry ≡ []
outer_top dies entry d is top = outer_is dies entry d is ∙ ap (around dies entry) (sym top) ∙ around_none dies entry

pub outer_past : (dies : List DieFields) (entry number : ℕ) (d : DieFields) → Some d ≡ slice_get dies entry → Some number ≡ d.parent → entry ≤ number → outer dies entry ≡ []
outer_past dies entry number d is to past = outer_is dies entry d is ∙ ap (around dies entry) (sym to) ∙ around_past dies entry number past

pub outer_lost : (dies : List DieFields) (entry number : ℕ) (d : DieFields) → Some d ≡ slice_get dies entry → Some number ≡ d.parent → number < entry → None ≡ slice_get dies number → outer dies entry ≡ []
outer_lost dies entry number d is to below none = outer_is dies entry d is ∙ ap (around dies entry) (sym to) ∙ around_found dies entry number None below (sym none)

pub outer_step : (dies : List DieFields) (entry number : ℕ) (d above : DieFields) → Some d ≡ slice_get dies entry → Some number ≡ d.parent → number < entry → Some above ≡ slice_get dies number → outer dies entry ≡ number ∷ outer dies number
outer_step dies entry number d above is to below there =
    outer_is dies entry d is ∙ ap (around dies entry) (sym to) ∙ around_found dies entry number (Some above) below (sym there) ∙ ap (λ l. number ∷ l) (sym (outer_is dies number above there))

-- The entries that come after one of the entries around another are those around that one.
tail_found : (dies : List DieFields) (number : ℕ) (o : Option DieFields) (xs : List ℕ) (n : ℕ) (rest : List ℕ) → slice_get dies number ≡ o
    → ((d : DieFields) (ys : List ℕ) → o ≡ Some d → around dies number d.parent ≡ ys ++ n ∷ rest → rest ≡ outer dies n)
    → option_map_or (λ d. number ∷ around dies number d.parent) o [] ≡ xs ++ n ∷ rest → rest ≡ outer dies n
tail_found dies number None [] n rest at later is = absurd (cc)
tail_found dies number None (x ∷ xs) n rest at later is = absurd (cc)
tail_found dies number (Some d) [] n rest at later is =
    let same : number ≡ n = cc in
    let tail : around dies number d.parent ≡ rest = cc in
    sym tail ∙ sym (outer_is dies number d (sym at)) ∙ ap (outer dies) same
tail_found dies number (Some d) (x ∷ xs) n rest at later is = later d xs refl cc

around_tail : (dies : List DieFields) (limit : ℕ) (parent : Option ℕ) (xs : List ℕ) (n : ℕ) (rest : List ℕ) → around dies limit parent ≡ xs ++ n ∷ rest → rest ≡ outer dies n
unfolding around
around_tail dies zero parent [] n rest is = absurd (cc)
around_tail dies zero parent (x ∷ xs) n rest is = absurd (cc)
around_tail dies (suc number) parent xs n rest is =
    go (option_map_or (λ p. p == number) parent false) is (λ d ys later. around_tail dies number d.parent ys n rest later) (around_tail dies number parent xs n rest)
  where
    go : (t : Bool) → cond t (option_map_or (λ d. number ∷ around dies number d.parent) (slice_get dies number) []) (around dies number parent) ≡ xs ++ n ∷ rest
        → ((d : DieFields) (ys : List ℕ) → around dies number d.parent ≡ ys ++ n ∷ rest → rest ≡ outer dies n)
        → (around dies number parent ≡ xs ++ n ∷ rest → rest ≡ outer dies n) → rest ≡ outer dies n
    go true so inside past = tail_found dies number (slice_get dies number) xs n rest refl (λ d ys at later. inside d ys later) so
    go false so inside past = past so

outer_tail : (dies : List DieFields) (entry : ℕ) (xs : List ℕ) (n : ℕ) (rest : List ℕ) → outer dies entry ≡ xs ++ n ∷ rest → rest ≡ outer dies n
unfolding outer
outer_tail dies entry xs n rest is = go (slice_get dies entry) xs is
  where
    go : (o : Option DieFields) (ys : List ℕ) → option_map_or (λ d. around dies entry d.parent) o [] ≡ ys ++ n ∷ rest → rest ≡ outer dies n
    go None [] so = absurd (cc)
    go None (y ∷ ys) so = absurd (cc)
    go (Some d) ys so = around_tail dies entry d.parent ys n rest so

-- ---- The keys of prefixes.

-- What is kept after two more pieces.
kept_twice : (text a b : List ℕ) → kept_more (kept_more (kept text) a) b ≡ kept (text ++ (a ++ b))
kept_twice text a b = ap (λ l. kept_more l b) (sym (kept_joined text a)) ∙ sym (kept_joined (text ++ a) b) ∙ ap kept (append_assoc text a b)

front_some : (dies : List DieFields) (k : ℕ) (d : DieFields) → Some d ≡ slice_get dies k → front_at dies k ≡ scope_front d
front_some dies k d is = ap (λ o. option_map_or scope_front o []) (sym is)

-- The key after the prefix of a scope was added.
pub key_scope : (units : List UnitRead) (first second third : NameKey) (dies : List DieFields) (k : ℕ) (d : DieFields) (name : List ℕ) → Some d ≡ slice_get dies k → is_scope d ≡ true → name ≡ scope_name d
    → ((text : List ℕ) → IsKey units first text → IsKey units second (kept_more text name)) → ((text : List ℕ) → IsKey units second text → IsKey units third (kept_more text (codes "::")))
    → (text : List ℕ) → IsKey units first (kept text) → IsKey units third (kept (text ++ front_at dies k))
unfolding scope_front
key_scope units first second third dies k d name there is named add next text of =
    let front : front_at dies k ≡ scope_name d ++ codes "::" = front_some dies k d there ∙ cond-true _ _ _ is in
    subst (IsKey units third)
    (kept_twice text name (codes "::") ∙ ap (λ n. kept (text ++ (n ++ codes "::"))) named ∙ ap (λ f. kept (text ++ f)) (sym front))
    (next (kept_more (kept text) name) (add (kept text) of))

-- An entry that gives no prefix does not change the key.
key_same : (units : List UnitRead) (key : NameKey) (front text : List ℕ) → front ≡ [] → IsKey units key (kept text) → IsKey units key (kept (text ++ front))
key_same units key front text none of = subst (λ l. IsKey units key (kept l)) (sym (append-nil text) ∙ ap (λ l. text ++ l) (sym none)) of

pub key_bare : (units : List UnitRead) (key : NameKey) (dies : List DieFields) (k : ℕ) (d : DieFields) → Some d ≡ slice_get dies k → is_scope d ≡ false → (text : List ℕ) → IsKey units key (kept text) → IsKey units key (kept (text ++ front_at dies k))
unfolding scope_front
key_bare units key dies k d there is text of = key_same units key (front_at dies k) text (front_some dies k d there ∙ cond-false _ _ _ is) of

pub key_none : (units : List UnitRead) (key : NameKey) (dies : List DieFields) (k : ℕ) → None ≡ slice_get dies k → (text : List ℕ) → IsKey units key (kept text) → IsKey units key (kept (text ++ front_at dies k))
key_none units key dies k is text of = key_same units key (front_at dies k) text (ap (λ o. option_map_or scope_front o []) (sym is)) of

-- ---- What is noted of entries.

pub noted_none : {A : Type 0} (holds : ℕ → ℕ → A → Type 0) (noted : BTreeMap ℕ A) → noted.entries ≡ [] → AreNoted holds noted
noted_none holds noted empty unit entry x few low is =
    let none : None ≡ Some x = sym (ap (λ es. lookup (is_at (nat_cmp (place_of unit entry))) es) empty) ∙ is in
    absurd (cc)

one_place : (unit entry other more : ℕ) → entry < 2 ^ 32 → more < 2 ^ 32 → place_of unit entry ≡ place_of other more → (unit ≡ other) × (entry ≡ more)
one_place unit entry other more low short same = (omega arith, omega arith)

pub noted_more : {A : Type 0} (holds : ℕ → ℕ → A → Type 0) (old new : BTreeMap ℕ A) (unit entry place : ℕ) (x : A) → AreNoted holds old → entry < 2 ^ 32 → place ≡ place_of unit entry → holds unit entry x → Updates nat_cmp old new place (Some x) → AreNoted holds new
noted_more holds old new unit entry place x are low at of updates other more found few short is =
    go (is_at (nat_cmp place) (place_of other more)) refl (sym (updates.0 (place_of other more)) ∙ is)
  where
    go : (t : Bool) → is_at (nat_cmp place) (place_of other more) ≡ t → cond t (Some x) (get nat_cmp old (place_of other more)) ≡ Some found → holds other more found
    go false there so = are other more found few short so
    go true there so =
        (let same : place ≡ place_of other more = grind (arith, nat_tests, there) in
        let both = one_place unit entry other more low short (sym at ∙ same) in
        let one : x ≡ found = cc in
        subst (holds other more) one (subst (λ u. holds u more x) both.0 (subst (λ e. holds unit e x) both.1 of)))

pub fronts_none : (units : List UnitRead) (known : BTreeMap ℕ NameKey) → known.entries ≡ [] → AreFronts units known
unfolding AreFronts
fronts_none units known empty = noted_none _ known empty

pub front_known : (units : List UnitRead) (known : BTreeMap ℕ NameKey) (unit entry place : ℕ) (key : NameKey) → AreFronts units known → unit < 2 ^ 32 → entry < 2 ^ 32 → place ≡ place_of unit entry → Some key ≡ get nat_cmp known place → IsKey units key (kept (inner_front units unit entry))
unfolding AreFronts
front_known units known unit entry place key are few low at is = are unit entry key few low (ap (get nat_cmp known) (sym at) ∙ sym is)

pub fronts_more : (units : List UnitRead) (known noted : BTreeMap ℕ NameKey) (unit entry place : ℕ) (key : NameKey) → AreFronts units known → entry < 2 ^ 32 → place ≡ place_of unit entry → IsKey units key (kept (inner_front units unit entry)) → Updates nat_cmp known noted place (Some key) → AreFronts units noted
unfolding AreFronts
fronts_more units known noted unit entry place key are low at of updates = noted_more _ known noted unit entry place key are low at of updates

-- ---- The walk up to the outermost entry and down again.

-- There is no entry around the last one.
pub half_top : (units : List UnitRead) (dies : List DieFields) (entry at : ℕ) (way : List ℕ) (key : NameKey) → way ++ outer dies at ≡ outer dies entry → outer dies at ≡ [] → IsKey units key (kept []) → IsHalfway units dies entry way key
half_top units dies entry at way key so_far none of = record { rest = []; around = ap (λ l. way ++ l) (sym none) ∙ so_far; key_is = of }

-- The key of the next entry is known.
pub half_known : (units : List UnitRead) (unit entry at number : ℕ) (way : List ℕ) (key : NameKey) → way ++ outer (unit_dies units unit) at ≡ outer (unit_dies units unit) entry → outer (unit_dies units unit) at ≡ number ∷ outer (unit_dies units unit) number
    → IsKey units key (kept (inner_front units unit number)) → IsHalfway units (unit_dies units unit) entry way key
unfolding inner_front
half_known units unit entry at number way key so_far is of = record {
  rest = number ∷ outer (unit_dies units unit) number;
  around = ap (λ l. way ++ l) (sym is) ∙ so_far;
  key_is = of;
}

-- The key after the prefix of an entry was added.
pub key_inner : (units : List UnitRead) (unit entry : ℕ) (key : NameKey) → IsKey units key (kept (outer_front units unit entry ++ front_at (unit_dies units unit) entry)) → IsKey units key (kept (inner_front units unit entry))
unfolding outer_front inner_front
key_inner units unit entry key of = of

half_split : (units : List UnitRead) (dies : List DieFields) (entry number : ℕ) (way last : List ℕ) (key : NameKey) → way ≡ last ++ number ∷ [] → (half : IsHalfway units dies entry way key) → last ++ number ∷ half.rest ≡ outer dies entry
half_split units dies entry number way last key popped half = sym (append_assoc last (number ∷ []) half.rest) ∙ ap (λ l. l ++ half.rest) (sym popped) ∙ half.around

-- The key before the prefix of an entry is added.
pub half_outer : (units : List UnitRead) (unit entry number : ℕ) (way last : List ℕ) (key : NameKey) → way ≡ last ++ number ∷ [] → IsHalfway units (unit_dies units unit) entry way key → IsKey units key (kept (outer_front units unit number))
unfolding outer_front
half_outer units unit entry number way last key popped half =
    subst (λ l. IsKey units key (kept (fronts (unit_dies units unit) l))) (outer_tail (unit_dies units unit) entry last number half.rest (sym (half_split units (unit_dies units unit) entry number way last key popped half))) half.key_is

pub half_more : (units : List UnitRead) (unit entry number : ℕ) (way last : List ℕ) (key more : NameKey) → way ≡ last ++ number ∷ [] → IsHalfway units (unit_dies units unit) entry way key → IsKey units more (kept (inner_front units unit number)) → IsHalfway units (unit_dies units unit) entry last more
unfolding inner_front
half_more units unit entry number way last key more popped half of =
    let split = half_split units (unit_dies units unit) entry number way last key popped half in
    let tail = outer_tail (unit_dies units unit) entry last number half.rest (sym split) in
    record {
      rest = number ∷ outer (unit_dies units unit) number;
      around = ap (λ l. last ++ number ∷ l) (sym tail) ∙ split;
      key_is = of;
    }

pub half_end : (units : List UnitRead) (unit entry : ℕ) (way : List ℕ) (key : NameKey) → way ≡ [] → IsHalfway units (unit_dies units unit) entry way key → IsKey units key (kept (outer_front units unit entry))
unfolding outer_front
half_end units unit entry way key none half =
    subst (λ l. IsKey units key (kept (fronts (unit_dies units unit) l))) (ap (λ l. l ++ half.rest) (sym none) ∙ half.around) half.key_is
