-- A table of files to which one name is added, and the files that agree with it, for `ask`.
use Rattle.std.proofs.Common.{◌≡◌, inl, inr, ℕ, ◌+◌, ◌^◌, ◌≤◌, ◌||◌, Bool, true, false, cond, if◌then◌else◌, is_some, map, List, [], ◌∷◌, ◌++◌, Option, None, Some, Result, arith, append_assoc, append-nil, refl, sym, ap, ◌∙◌, subst, Ordering, Less, Equal, Greater}
use Rattle.std.proofs.lemmas.Bool.{cases_lt}
use Rattle.std.proofs.lemmas.Map.Text.{is_eq-slice_cmp}
use Rattle.std.proofs.lemmas.Slice.Eq.{bytes_eq-Decides}
use Rattle.std.specs.BTreeMap as tree
use Rattle.std.specs.BTreeMap.{BTreeMap}
use Rattle.std.specs.Cmp.Lexicographic.{slice_cmp}
use Rattle.std.specs.Global.{Vec}
use Rattle.std.specs.List.{AllByRecursion, list_any}
use Rattle.std.specs.Map.{lookup}
use Rattle.std.specs.Borrow.{Bor}
use Rattle.std.specs.Option.{option_or, option_copied}
use Rattle.std.specs.Ordering.{nat_cmp, match_ordering, is_eq}
use Rattle.std.specs.Str.{bytes_eq}
use Rattle.sym_edges.specs.Outside.{Files, Tells, Rose}
use Rattle.sym_records.specs.declared.line.SymLine.{SymLine}
use Rattle.sym_grammar.specs.Input.{file_reading}
use Rattle.sym_grammar.specs.declared.refusal.SymRefusal.{SymRefusal}
use Rattle.module_stacks.specs.SymbolFiles.{Found, found_in, Seen, seen_in, Agrees, without, Counted, Knows, IsFound, AreNew, AreSeen, AsksFresh, Learns}
use Rattle.module_stacks.specs.internal.FileTable.{named, names_of}

or_none : {A : Type 0} (o : Option A) → option_or o None ≡ o
or_none None = refl
or_none (Some x) = refl

-- What is found after an entry is added.
abbrev pub with_file : Option Found → List ℕ → List ℕ → Found → Option Found
with_file earlier name key found = option_or earlier (if bytes_eq name key then Some found else None)

abbrev entry_at : List (Vec ℕ × Found) → List ℕ → Option Found
entry_at entries name = lookup (λ k. is_eq (slice_cmp nat_cmp name k.items)) entries

inserted : (entries : List (Vec ℕ × Found)) (key : Vec ℕ) (found : Found) (name : List ℕ) → entry_at entries key.items ≡ None → entry_at (tree.insert_entry (λ x y. slice_cmp nat_cmp x.items y.items) entries key found) name ≡ with_file (entry_at entries name) name key.items found
inserted [] key found name none = ap (λ b. if b then Some found else None) (is_eq-slice_cmp name key.items)
inserted (e ∷ entries) key found name none = go (slice_cmp nat_cmp key.items e.0.items) none (λ gone. inserted entries key found name gone)
  where
    later : List (Vec ℕ × Found)
    later = tree.insert_entry (λ x y. slice_cmp nat_cmp x.items y.items) entries key found

    here : (b : Bool) → bytes_eq name key.items ≡ b → entry_at (e ∷ entries) key.items ≡ None → cond b (Some found) (entry_at (e ∷ entries) name) ≡ option_or (entry_at (e ∷ entries) name) (if b then Some found else None)
    here true is gone = (let same : name ≡ key.items = (bytes_eq-Decides name key.items).0 is in sym (ap (λ o. option_or o (Some found)) (ap (entry_at (e ∷ entries)) same ∙ gone)))
    here false is gone = sym (or_none (entry_at (e ∷ entries) name))

    behind : (b : Bool) → cond b (Some e.1) (with_file (entry_at entries name) name key.items found) ≡ with_file (cond b (Some e.1) (entry_at entries name)) name key.items found
    behind true = refl
    behind false = refl

    go : (o : Ordering) → cond (is_eq o) (Some e.1) (entry_at entries key.items) ≡ None → (entry_at entries key.items ≡ None → entry_at later name ≡ with_file (entry_at entries name) name key.items found)
        → entry_at (match_ordering o ((key, found) ∷ e ∷ entries) ((e.0, found) ∷ entries) (e ∷ later)) name ≡ with_file (entry_at (e ∷ entries) name) name key.items found
    go Less gone later_is = ap (λ b. cond b (Some found) (entry_at (e ∷ entries) name)) (is_eq-slice_cmp name key.items) ∙ here (bytes_eq name key.items) refl none
    go Equal gone later_is = absurd (cc)
    go Greater gone later_is = ap (λ o. cond (is_eq (slice_cmp nat_cmp name e.0.items)) (Some e.1) o) (later_is gone) ∙ behind (is_eq (slice_cmp nat_cmp name e.0.items))

-- One name more.
pub record HasMore (old new : Seen) (key : List ℕ) (found : Found) : Type 0 where
  pub more : (name : List ℕ) → new name ≡ with_file (old name) name key found
  pub none : old key ≡ None

-- What a table has under a name.
seen_entries : (entries : List (Vec ℕ × Found)) (name : List ℕ) → seen_in (map named entries) name ≡ entry_at entries name
seen_entries [] name = refl
seen_entries (e ∷ entries) name = ap (λ b. cond b (Some e.1) (seen_in (map named entries) name)) (sym (is_eq-slice_cmp name e.0.items)) ∙ ap (λ o. cond (is_eq (slice_cmp nat_cmp name e.0.items)) (Some e.1) o) (seen_entries entries name)

pub seen_is : (files : BTreeMap (Vec ℕ) Found) (name : List ℕ) → seen_in (names_of files) name ≡ tree.get_by (λ k. slice_cmp nat_cmp name k.items) files
seen_is files name = seen_entries files.entries name

pub has_more : (old new : BTreeMap (Vec ℕ) Found) (owned : Vec ℕ) (key : List ℕ) (found : Found) → owned.items ≡ key → seen_in (names_of old) key ≡ None → new.entries ≡ tree.insert_entry (λ x y. slice_cmp nat_cmp x.items y.items) old.entries owned found → HasMore (seen_in (names_of old)) (seen_in (names_of new)) key found
has_more old new owned key found same none added =
    let gone : entry_at old.entries owned.items ≡ None = sym (seen_entries old.entries owned.items) ∙ ap (seen_in (names_of old)) same ∙ none in
    record {
      more = λ name.
          seen_entries new.entries name ∙ ap (λ l. entry_at l name) added ∙ inserted old.entries owned found name gone
          ∙ ap (λ o. with_file o name owned.items found) (sym (seen_entries old.entries name)) ∙ ap (λ k. with_file (seen_in (names_of old) name) name k found) same;
      none = none;
    }

pub newest : (old new : Seen) (key : List ℕ) (found : Found) → HasMore old new key found → new key ≡ Some found
newest old new key found has = has.more key ∙ ap (λ o. with_file o key key found) has.none ∙ ap (λ b. if b then Some found else None) ((bytes_eq-Decides key key).1 refl)

stays_more : (old new : Seen) (key : List ℕ) (found : Found) → HasMore old new key found → (other : List ℕ) (was : Found) → old other ≡ Some was → new other ≡ Some was
stays_more old new key found has other was is = has.more other ∙ ap (λ o. with_file o other key found) is

-- Files that agree.

-- The files with these bytes under a name.
abbrev pub over : Files → List ℕ → Option (List ℕ) → Files
over got key bytes name = if bytes_eq name key then bytes else got name

-- What was found before agrees with these files too.
agrees_over : (old new : Seen) (key : List ℕ) (found : Found) (got : Files) (bytes : Option (List ℕ)) → HasMore old new key found → Agrees got old → found_in bytes ≡ found → Agrees (over got key bytes) new
agrees_over old new key found got bytes has agrees is = λ name was there. go name was (old name) refl (bytes_eq name key) refl (sym (has.more name) ∙ there)
  where
    go : (name : List ℕ) (was : Found) (o : Option Found) → old name ≡ o → (b : Bool) → bytes_eq name key ≡ b → option_or o (if b then Some found else None) ≡ Some was → found_in (if b then bytes else got name) ≡ was
    go name was (Some x) at true same there =
        let one : name ≡ key = (bytes_eq-Decides name key).0 same in
        let no : Some x ≡ None = sym at ∙ ap old one ∙ has.none in absurd (cc)
    go name was (Some x) at false same there = agrees name was (at ∙ there)
    go name was None at true same there = (let one : found ≡ was = cc in is ∙ one)
    go name was None at false same there = absurd (cc)

-- The known files are these, if the call returned the bytes under the name.
told_over : (missed : List (List ℕ)) (f got : Files) (key : List ℕ) (bytes : List ℕ) → ((name : List ℕ) → got name ≡ without missed f name) → list_any (bytes_eq key) missed ≡ false → f key ≡ Some bytes → (name : List ℕ) → over got key (Some bytes) name ≡ without missed f name
told_over missed f got key bytes told free is = λ name. go name (bytes_eq name key) refl
  where
    go : (name : List ℕ) (b : Bool) → bytes_eq name key ≡ b → (if b then Some bytes else got name) ≡ without missed f name
    go name true same =
        let one : key ≡ name = sym ((bytes_eq-Decides name key).0 same) in
        subst (λ n. Some bytes ≡ without missed f n) one (sym (ap (λ b. if b then None else f key) free ∙ is))
    go name false same = told name

-- The known files are these, if the call failed.
missed_over : (missed : List (List ℕ)) (f got : Files) (key : List ℕ) → ((name : List ℕ) → got name ≡ without missed f name) → (name : List ℕ) → over got key None name ≡ without (key ∷ missed) f name
missed_over missed f got key told = λ name. go name (bytes_eq name key) refl
  where
    go : (name : List ℕ) (b : Bool) → bytes_eq name key ≡ b → (if b then None else got name) ≡ (if b || list_any (bytes_eq name) missed then None else f name)
    go name true same = refl
    go name false same = told name

pub rose_later : (before mid after : ℕ) → before ≤ mid → mid ≤ after → Rose mid after → Rose before after
rose_later before mid after first second rose = λ small. elim (cases_lt (mid + 1) (2 ^ 64)) [
  | inl low ↦ (let up = rose low in omega (arith, up, first))
  | inr high ↦ omega (arith, high, small, second)
]

is_there : (old new : Seen) (key : List ℕ) (found : Found) → HasMore old new key found → (name : List ℕ) → is_some (old name) ≡ true → is_some (new name) ≡ true
is_there old new key found has name some = go (old name) (has.more name) some
  where
    go : (o : Option Found) → new name ≡ with_file o name key found → is_some o ≡ true → is_some (new name) ≡ true
    go (Some was) is some = ap is_some is
    go None is some = absurd (cc)

-- A name at which a call failed was asked for.
free_of : (old : Seen) (missed : List (List ℕ)) (key : List ℕ) → ((name : List ℕ) → list_any (bytes_eq name) missed ≡ true → is_some (old name) ≡ true) → old key ≡ None → list_any (bytes_eq key) missed ≡ false
free_of old missed key asked none = go (list_any (bytes_eq key) missed) refl
  where
    go : (b : Bool) → list_any (bytes_eq key) missed ≡ b → list_any (bytes_eq key) missed ≡ false
    go false is = is
    go true is = (let no : false ≡ true = sym (ap is_some none) ∙ asked key is in absurd (cc))

-- A call failed.
knows_none : (files : Option Files) (before mid after : ℕ) (old new : Seen) (key : List ℕ) → HasMore old new key None → before ≤ mid → mid ≤ after → Rose mid after → Knows files before mid old → Knows files before after new
knows_none files before mid after old new key has first second rose knows = record {
  got = over knows.got key None;
  missed = key ∷ knows.missed;
  had = record {
    told = told files knows.had.told;
    counted = rose_later before mid after first second rose;
    asked = λ name among. asked name (bytes_eq name key) refl among;
  };
  agrees = agrees_over old new key None knows.got None has knows.agrees refl;
}
  where
    told : (files : Option Files) → Tells files (λ f. (name : List ℕ) → knows.got name ≡ without knows.missed f name) → Tells files (λ f. (name : List ℕ) → over knows.got key None name ≡ without (key ∷ knows.missed) f name)
    told None is = tt
    told (Some f) is = missed_over knows.missed f knows.got key is

    asked : (name : List ℕ) (b : Bool) → bytes_eq name key ≡ b → (b || list_any (bytes_eq name) knows.missed) ≡ true → is_some (new name) ≡ true
    asked name true same among = ap (λ n. is_some (new n)) ((bytes_eq-Decides name key).0 same) ∙ ap is_some (newest old new key None has)
    asked name false same among = is_there old new key None has name (knows.had.asked name among)

-- A call read some bytes.
knows_some : (files : Option Files) (before mid after : ℕ) (old new : Seen) (key : List ℕ) (read : Result (List SymLine) SymRefusal) (bytes : List ℕ) → HasMore old new key (Some read) → after ≡ mid → file_reading (2 ^ 29) bytes ≡ read → Tells files (λ f. f key ≡ Some bytes) → Knows files before mid old → Knows files before after new
knows_some files before mid after old new key read bytes has steady is there knows = record {
  got = over knows.got key (Some bytes);
  missed = knows.missed;
  had = record {
    told = told files there knows.had.told;
    counted = subst (Counted knows.missed before) (sym steady) knows.had.counted;
    asked = λ name among. is_there old new key (Some read) has name (knows.had.asked name among);
  };
  agrees = agrees_over old new key (Some read) knows.got (Some bytes) has knows.agrees (ap Some is);
}
  where
    told : (files : Option Files) → Tells files (λ f. f key ≡ Some bytes) → Tells files (λ f. (name : List ℕ) → knows.got name ≡ without knows.missed f name) → Tells files (λ f. (name : List ℕ) → over knows.got key (Some bytes) name ≡ without knows.missed f name)
    told None there is = tt
    told (Some f) there is = told_over knows.missed f knows.got key bytes is (free_of old knows.missed key knows.had.asked has.none) there

pub knows_more : (files : Option Files) (before mid after : ℕ) (old new : Seen) (key : List ℕ) (found : Found) → HasMore old new key found → before ≤ mid → mid ≤ after → IsFound found files key mid after → Knows files before mid old → Knows files before after new
knows_more files before mid after old new key None has first second is knows = knows_none files before mid after old new key has first second is knows
knows_more None before mid after old new key (Some read) has first second is knows = knows_some None before mid after old new key read is.1.0 has is.0 is.1.1 tt knows
knows_more (Some f) before mid after old new key (Some read) has first second is knows = knows_some (Some f) before mid after old new key read is.1.0 has is.0 is.1.2 is.1.1 knows

-- One call after another.

-- What is true of each member of two lists is true of each member of both together.
pub all_both : {X : Type 0} (P : X → Type 0) (xs ys : List X) → AllByRecursion P xs → AllByRecursion P ys → AllByRecursion P (xs ++ ys)
all_both P [] ys first second = second
all_both P (x ∷ xs) ys first second = (first.0, all_both P xs ys first.1 second)

pub all_weaker : {X : Type 0} (P Q : X → Type 0) → ((x : X) → P x → Q x) → (xs : List X) → AllByRecursion P xs → AllByRecursion Q xs
all_weaker P Q weaker [] all = tt
all_weaker P Q weaker (x ∷ xs) all = (weaker x all.0, all_weaker P Q weaker xs all.1)

none_new : (old : Seen) (key : List ℕ) → old key ≡ None → AreNew old (key ∷ [])
none_new old key none = (none, (refl, tt))

-- If something is known now of a name, and was not known before, this is the new name.
only_new : (old new : Seen) (key : List ℕ) (found : Found) → HasMore old new key found → (name : List ℕ) → is_some (new name) ≡ true → list_any (bytes_eq name) (key ∷ []) ≡ false → is_some (old name) ≡ true
only_new old new key found has name some other = go (old name) (bytes_eq name key) (sym (ap is_some (has.more name)) ∙ some) other
  where
    go : (o : Option Found) (b : Bool) → is_some (option_or o (if b then Some found else None)) ≡ true → (b || false) ≡ false → is_some o ≡ true
    go (Some was) b some other = refl
    go None true some other = absurd (cc)
    go None false some other = some

pub learns_more : (P : List ℕ → Type 0) (files : Option Files) (asked after : List (List ℕ)) (mid now : ℕ) (old new : Seen) (key : List ℕ) (found : Found) → HasMore old new key found → after ≡ asked ++ key ∷ [] → mid ≤ now → P key → IsFound found files key mid now → Learns P files asked after mid now old new
learns_more P files asked after mid now old new key found has asks up of is = record {
  stays = stays_more old new key found has;
  names = key ∷ [];
  asks = asks;
  fresh = none_new old key has.none;
  are = (of, tt);
  seen = (ap is_some (newest old new key found has), tt);
  only = only_new old new key found has;
  knows = λ before low knows. knows_more files before mid now old new key found has low up is knows;
}

pub learns_none : (P : List ℕ → Type 0) (files : Option Files) (asked : List (List ℕ)) (faults : ℕ) (seen : Seen) → Learns P files asked asked faults faults seen seen
learns_none P files asked faults seen = record {
  stays = λ name found is. is;
  names = [];
  asks = sym (append-nil asked);
  fresh = tt;
  are = tt;
  seen = tt;
  only = λ name some other. some;
  knows = λ before low knows. knows;
}

pub asks_none : (P : List ℕ → Type 0) (asked : List (List ℕ)) (seen : Seen) → AsksFresh P seen asked asked
asks_none P asked seen = ([], (sym (append-nil asked), (tt, tt)))

-- Names that are new after others were asked for.
was_none : (old mid : Seen) (name : List ℕ) → ((name : List ℕ) (found : Found) → old name ≡ Some found → mid name ≡ Some found) → mid name ≡ None → old name ≡ None
was_none old mid name stays none = go (old name) refl
  where
    go : (o : Option Found) → old name ≡ o → old name ≡ None
    go None is = is
    go (Some found) is = (let no : None ≡ Some found = sym none ∙ stays name found is in absurd (cc))

new_before : (old mid : Seen) (names : List (List ℕ)) → ((name : List ℕ) (found : Found) → old name ≡ Some found → mid name ≡ Some found) → AreNew mid names → AreNew old names
new_before old mid [] stays later = tt
new_before old mid (name ∷ names) stays later = (was_none old mid name stays later.0, (later.1.0, new_before old mid names stays later.1.1))

-- A name that was asked for is not among the new ones.
not_among : (mid : Seen) (name : List ℕ) (names : List (List ℕ)) → is_some (mid name) ≡ true → AreNew mid names → list_any (bytes_eq name) names ≡ false
not_among mid name [] there later = refl
not_among mid name (other ∷ names) there later = go (bytes_eq name other) refl (not_among mid name names there later.1.1)
  where
    go : (b : Bool) → bytes_eq name other ≡ b → list_any (bytes_eq name) names ≡ false → (b || list_any (bytes_eq name) names) ≡ false
    go true same rest = (let one : name ≡ other = (bytes_eq-Decides name other).0 same in let no : false ≡ true = sym (ap is_some later.0) ∙ ap (λ n. is_some (mid n)) (sym one) ∙ there in absurd (cc))
    go false same rest = rest

among_neither : (name : List ℕ) (first second : List (List ℕ)) → list_any (bytes_eq name) first ≡ false → list_any (bytes_eq name) second ≡ false → list_any (bytes_eq name) (first ++ second) ≡ false
among_neither name [] second free later = later
among_neither name (other ∷ first) second free later = go (bytes_eq name other) free (λ rest. among_neither name first second rest later)
  where
    go : (b : Bool) → (b || list_any (bytes_eq name) first) ≡ false → (list_any (bytes_eq name) first ≡ false → list_any (bytes_eq name) (first ++ second) ≡ false) → (b || list_any (bytes_eq name) (first ++ second)) ≡ false
    go true free more = absurd (cc)
    go false free more = more free

behind : (old mid : Seen) (first second : List (List ℕ)) → ((name : List ℕ) (found : Found) → old name ≡ Some found → mid name ≡ Some found) → AreNew old first → AreSeen mid first → AreNew mid second → AreNew old (first ++ second)
behind old mid [] second stays new seen later = new_before old mid second stays later
behind old mid (name ∷ first) second stays new seen later =
    (new.0, (among_neither name first second new.1.0 (not_among mid name second seen.0 later), behind old mid first second stays new.1.1 seen.1 later))

seen_later : (mid new : Seen) (names : List (List ℕ)) → ((name : List ℕ) (found : Found) → mid name ≡ Some found → new name ≡ Some found) → AreSeen mid names → AreSeen new names
seen_later mid new [] stays seen = tt
seen_later mid new (name ∷ names) stays seen = (go (mid name) refl seen.0, seen_later mid new names stays seen.1)
  where
    go : (o : Option Found) → mid name ≡ o → is_some o ≡ true → is_some (new name) ≡ true
    go (Some found) is some = ap is_some (stays name found is)
    go None is some = absurd (cc)

seen_both : (new : Seen) (first second : List (List ℕ)) → AreSeen new first → AreSeen new second → AreSeen new (first ++ second)
seen_both new [] second seen later = later
seen_both new (name ∷ first) second seen later = (seen.0, seen_both new first second seen.1 later)

only_then : (old half new : Seen) (first second : List (List ℕ)) → ((name : List ℕ) → is_some (half name) ≡ true → list_any (bytes_eq name) first ≡ false → is_some (old name) ≡ true) → ((name : List ℕ) → is_some (new name) ≡ true → list_any (bytes_eq name) second ≡ false → is_some (half name) ≡ true)
    → (name : List ℕ) → is_some (new name) ≡ true → list_any (bytes_eq name) (first ++ second) ≡ false → is_some (old name) ≡ true
only_then old half new first second one two name some other = (let both = neither name first second other in one name (two name some both.1) both.0)
  where
    neither : (name : List ℕ) (first second : List (List ℕ)) → list_any (bytes_eq name) (first ++ second) ≡ false → (list_any (bytes_eq name) first ≡ false) × (list_any (bytes_eq name) second ≡ false)
    neither name [] second free = (refl, free)
    neither name (other ∷ first) second free = go (bytes_eq name other) free (λ rest. neither name first second rest)
      where
        go : (b : Bool) → (b || list_any (bytes_eq name) (first ++ second)) ≡ false → (list_any (bytes_eq name) (first ++ second) ≡ false → (list_any (bytes_eq name) first ≡ false) × (list_any (bytes_eq name) second ≡ false)) → ((b || list_any (bytes_eq name) first) ≡ false) × (list_any (bytes_eq name) second ≡ false)
        go true free more = absurd (cc)
        go false free more = more free

pub learns_then : (P : List ℕ → Type 0) (files : Option Files) (asked between after : List (List ℕ)) (faults mid now : ℕ) (old half new : Seen) → faults ≤ mid → Learns P files asked between faults mid old half → Learns P files between after mid now half new → Learns P files asked after faults now old new
learns_then P files asked between after faults mid now old half new up first second = record {
  stays = λ name found is. second.stays name found (first.stays name found is);
  names = first.names ++ second.names;
  asks = second.asks ∙ ap (λ a. a ++ second.names) first.asks ∙ append_assoc asked first.names second.names;
  fresh = behind old half first.names second.names first.stays first.fresh first.seen second.fresh;
  are = all_both P first.names second.names first.are second.are;
  seen = seen_both new first.names second.names (seen_later half new first.names second.stays first.seen) second.seen;
  only = only_then old half new first.names second.names first.only second.only;
  knows = λ before low knows. (let higher : before ≤ mid = omega (arith, low, up) in second.knows before higher (first.knows before low knows));
}

pub asks_then : (P : List ℕ → Type 0) (files : Option Files) (asked between after : List (List ℕ)) (faults mid : ℕ) (old half : Seen) → Learns P files asked between faults mid old half → AsksFresh P half between after → AsksFresh P old asked after
asks_then P files asked between after faults mid old half first second = (
  first.names ++ second.0,
  (
    second.1.0 ∙ ap (λ a. a ++ second.0) first.asks ∙ append_assoc asked first.names second.0,
    (behind old half first.names second.0 first.stays first.fresh first.seen second.1.1.0, all_both P first.names second.0 first.are second.1.1.1),
  ),
)

-- What is true of the names that were learned implies a weaker fact.
pub learns_weaker : (P Q : List ℕ → Type 0) → ((name : List ℕ) → P name → Q name) → (files : Option Files) (asked after : List (List ℕ)) (faults now : ℕ) (old new : Seen) → Learns P files asked after faults now old new → Learns Q files asked after faults now old new
learns_weaker P Q weaker files asked after faults now old new learns = record {
  stays = learns.stays;
  names = learns.names;
  asks = learns.asks;
  fresh = learns.fresh;
  are = all_weaker P Q weaker learns.names learns.are;
  seen = learns.seen;
  only = learns.only;
  knows = learns.knows;
}

pub asks_weaker : (P Q : List ℕ → Type 0) → ((name : List ℕ) → P name → Q name) → (asked after : List (List ℕ)) (old : Seen) → AsksFresh P old asked after → AsksFresh Q old asked after
asks_weaker P Q weaker asked after old asks = (asks.0, (asks.1.0, (asks.1.1.0, all_weaker P Q weaker asks.0 asks.1.1.1)))

-- A call that asks the store.

pub none_by : {A : Type 0} (held : Option (Bor A)) (found : Option A) → is_some held ≡ false → option_copied held ≡ found → found ≡ None
none_by None found none is = sym is
none_by (Some x) found none is = absurd (cc)

pub ask_there : (old new : BTreeMap (Vec ℕ) Found) (owned : Vec ℕ) (key : List ℕ) (found : Found) → owned.items ≡ key → seen_in (names_of old) key ≡ None → new.entries ≡ tree.insert_entry (λ x y. slice_cmp nat_cmp x.items y.items) old.entries owned found
    → is_some (seen_in (names_of new) key) ≡ true
ask_there old new owned key found same none added = ap is_some (newest (seen_in (names_of old)) (seen_in (names_of new)) key found (has_more old new owned key found same none added))

pub ask_learns : (files : Option Files) (asked after : List (List ℕ)) (mid now : ℕ) (old new : BTreeMap (Vec ℕ) Found) (owned : Vec ℕ) (key : List ℕ) (found : Found) → owned.items ≡ key → seen_in (names_of old) key ≡ None
    → new.entries ≡ tree.insert_entry (λ x y. slice_cmp nat_cmp x.items y.items) old.entries owned found → after ≡ asked ++ key ∷ [] → mid ≤ now → IsFound found files key mid now → Learns (λ name. name ≡ key) files asked after mid now (seen_in (names_of old)) (seen_in (names_of new))
ask_learns files asked after mid now old new owned key found same none added asks up is =
    learns_more (λ name. name ≡ key) files asked after mid now (seen_in (names_of old)) (seen_in (names_of new)) key found (has_more old new owned key found same none added) asks up refl is

-- The same, if the files of the second call are equal to those of the first.
pub learns_on : (P : List ℕ → Type 0) (files between_files : Option Files) (asked between after : List (List ℕ)) (faults mid now : ℕ) (old half new : Seen) → between_files ≡ files → faults ≤ mid → Learns P files asked between faults mid old half → Learns P between_files between after mid now half new → Learns P files asked after faults now old new
learns_on P files between_files asked between after faults mid now old half new same up first second =
    learns_then P files asked between after faults mid now old half new up first (subst (λ (f : Option Files). Learns P f between after mid now half new) same second)
