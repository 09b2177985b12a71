-- The words of a line, and the groups of words.
use Rattle.std.proofs.Common.{◌≡◌, ℕ, ◌==◌, ◌||◌, cond, Bool, true, false, not, List, [], ◌∷◌, ◌++◌, Result, Ok, refl, sym, ◌∙◌, ap, map}
use Rattle.std.specs.List.{list_all, flat_map}
use Rattle.sym_rules.proofs.BoolLemmas.{and_true, both, not_true, not_false, elim_bool, bind_ok}
use Rattle.sym_rules.proofs.EndLemmas.{last_later, last_one, last_nothing}
use Rattle.sym_edges.specs.Results.{◌>>=◌}
use Rattle.sym_rules.specs.Cuts.{is_cr, is_margin, is_within_line, is_within_field, onto, last_is}
use Rattle.sym_rules.specs.RuleReading.{ends_word, words, ends_in_colon, groups, each}
use Rattle.sym_rules.specs.declared.text_fault.TextKind.{TextKind}

no_space : (x : ℕ) → is_within_field x ≡ true → (x == 32) ≡ false
no_space x is = not_true (and_true is).0

-- Words with one space before each.
abbrev pub parted : List (List ℕ) → List ℕ
parted fs = flat_map (λ f. 32 ∷ f) fs

ends_parted : (fs : List (List ℕ)) → ends_word (parted fs) ≡ true
ends_parted [] = refl
ends_parted (f ∷ fs) = refl

-- A word that is followed by others.
words_first : (x : ℕ) (w : List ℕ) (fs : List (List ℕ)) → list_all is_within_field (x ∷ w) ≡ true → words (parted fs) ≡ fs → words ((x ∷ w) ++ parted fs) ≡ (x ∷ w) ∷ fs
unfolding words
words_first x [] fs all rest =
    ap (λ t. cond t (words (parted fs)) (cond (ends_word (parted fs)) ((x ∷ []) ∷ words (parted fs)) (onto x (words (parted fs))))) (no_space x (and_true all).0)
    ∙ ap (λ t. cond t ((x ∷ []) ∷ words (parted fs)) (onto x (words (parted fs)))) (ends_parted fs)
    ∙ ap (λ l. (x ∷ []) ∷ l) rest
words_first x (y ∷ w) fs all rest =
    let later = and_true {a = is_within_field x} {b = list_all is_within_field (y ∷ w)} all in
    ap (λ t. cond t (words ((y ∷ w) ++ parted fs)) (cond (y == 32) ((x ∷ []) ∷ words ((y ∷ w) ++ parted fs)) (onto x (words ((y ∷ w) ++ parted fs))))) (no_space x later.0)
    ∙ ap (λ t. cond t ((x ∷ []) ∷ words ((y ∷ w) ++ parted fs)) (onto x (words ((y ∷ w) ++ parted fs)))) (no_space y (and_true later.1).0)
    ∙ ap (onto x) (words_first y w fs later.1 rest)

-- A word of at least one byte, without spaces and LFs.
abbrev pub is_word : List ℕ → Bool
is_word [] = false
is_word (x ∷ w) = list_all is_within_field (x ∷ w)

words_behind : (f : List ℕ) (fs : List (List ℕ)) → is_word f ≡ true → words (parted fs) ≡ fs → words (f ++ parted fs) ≡ f ∷ fs
words_behind [] fs is rest = cc
words_behind (x ∷ w) fs is rest = words_first x w fs is rest

words_space : (bytes : List ℕ) → words (32 ∷ bytes) ≡ words bytes
unfolding words
words_space bytes = refl

words_nothing : words [] ≡ []
unfolding words
words_nothing = refl

-- Words with one space before each are read as these words.
pub words_are : (fs : List (List ℕ)) → list_all is_word fs ≡ true → words (parted fs) ≡ fs
words_are [] all = words_nothing
words_are (f ∷ fs) all = words_space (f ++ parted fs) ∙ words_behind f fs (and_true all).0 (words_are fs (and_true all).1)

-- The words of bytes that do not end in a space or CR.
pub record WordsOf (bytes : List ℕ) : Type 0 where
  pub first : ℕ
  pub word : List ℕ
  pub later : List (List ℕ)
  pub is : words bytes ≡ (first ∷ word) ∷ later
  pub within : list_all (list_all is_within_field) ((first ∷ word) ∷ later) ≡ true
  pub ends : last_is (last_is is_cr) ((first ∷ word) ∷ later) ≡ false

field_byte : (x : ℕ) → (x == 32) ≡ false → is_within_line x ≡ true → is_within_field x ≡ true
field_byte x space line = both (not_false space) line

not_margin : (x : ℕ) → is_margin x ≡ false → ((x == 32) ≡ false) × ((x == 13) ≡ false)
not_margin x is = elim_bool (x == 32) (λ t. (t || (x == 13)) ≡ false → (t ≡ false) × ((x == 13) ≡ false)) (λ _ h. cc) (λ _ h. (refl, h)) is

words_one : (x : ℕ) → is_within_line x ≡ true → is_margin x ≡ false → WordsOf (x ∷ [])
unfolding words last_is
words_one x line margin =
    let parts = not_margin x margin in
    record {
      first = x;
      word = [];
      later = [];
      is = ap (λ t. cond t (words []) ((x ∷ []) ∷ words [])) parts.0;
      within = both (both (field_byte x parts.0 line) refl) refl;
      ends = parts.1;
    }

onto_first : (x c : ℕ) (w : List ℕ) (ws : List (List ℕ)) → last_is (last_is is_cr) ((x ∷ c ∷ w) ∷ ws) ≡ last_is (last_is is_cr) ((c ∷ w) ∷ ws)
unfolding last_is
onto_first x c w [] = refl
onto_first x c w (v ∷ ws) = refl

words_more : (x y : ℕ) (ys : List ℕ) → is_within_line x ≡ true → WordsOf (y ∷ ys) → WordsOf (x ∷ y ∷ ys)
unfolding words
words_more x y ys line rest =
    let tail : List (List ℕ) = (rest.first ∷ rest.word) ∷ rest.later in
    elim_bool (x == 32) (λ t. (x == 32) ≡ t → WordsOf (x ∷ y ∷ ys))
    (λ _ space. record {
      first = rest.first;
      word = rest.word;
      later = rest.later;
      is = ap (λ t. cond t (words (y ∷ ys)) (cond (y == 32) ((x ∷ []) ∷ words (y ∷ ys)) (onto x (words (y ∷ ys))))) space ∙ rest.is;
      within = rest.within;
      ends = rest.ends;
    })
    (λ _ space. elim_bool (y == 32) (λ t. (y == 32) ≡ t → WordsOf (x ∷ y ∷ ys))
    (λ _ next. record {
      first = x;
      word = [];
      later = tail;
      is = ap (λ t. cond t (words (y ∷ ys)) (cond (y == 32) ((x ∷ []) ∷ words (y ∷ ys)) (onto x (words (y ∷ ys))))) space
          ∙ ap (λ t. cond t ((x ∷ []) ∷ words (y ∷ ys)) (onto x (words (y ∷ ys)))) next ∙ ap (λ l. (x ∷ []) ∷ l) rest.is;
      within = both (both (field_byte x space line) refl) rest.within;
      ends = last_later (last_is is_cr) (x ∷ []) (rest.first ∷ rest.word) rest.later ∙ rest.ends;
    })
    (λ _ next. record {
      first = x;
      word = rest.first ∷ rest.word;
      later = rest.later;
      is = ap (λ t. cond t (words (y ∷ ys)) (cond (y == 32) ((x ∷ []) ∷ words (y ∷ ys)) (onto x (words (y ∷ ys))))) space
          ∙ ap (λ t. cond t ((x ∷ []) ∷ words (y ∷ ys)) (onto x (words (y ∷ ys)))) next ∙ ap (onto x) rest.is;
      within = both (both (field_byte x space line) (and_true {a = list_all is_within_field (rest.first ∷ rest.word)} rest.within).0) (and_true {a = list_all is_within_field (rest.first ∷ rest.word)} rest.within).1;
      ends = onto_first x rest.first rest.word rest.later ∙ rest.ends;
    }) refl) refl

pub words_sound : (x : ℕ) (bytes : List ℕ) → list_all is_within_line (x ∷ bytes) ≡ true → last_is is_margin (x ∷ bytes) ≡ false → WordsOf (x ∷ bytes)
words_sound x [] line ends = words_one x (and_true line).0 (sym (last_one is_margin x) ∙ ends)
words_sound x (y ∷ ys) line ends =
    let parts = and_true {a = is_within_line x} {b = list_all is_within_line (y ∷ ys)} line in
    words_more x y ys parts.0 (words_sound y ys parts.1 (sym (last_later is_margin x y ys) ∙ ends))

-- The next word begins a rule, or there is none.
abbrev pub Begun : List (List ℕ) → Type 0
Begun [] = Unit {0}
Begun (word ∷ later) = ends_in_colon word ≡ true

abbrev pub goes_on : List ℕ → Bool
goes_on word = not (ends_in_colon word)

pub groups_first : (word : List ℕ) (given rest : List (List ℕ)) → list_all goes_on given ≡ true → Begun rest → groups (word ∷ (given ++ rest)) ≡ (word ∷ given) ∷ groups rest
unfolding groups
groups_first word [] [] all begun = refl
groups_first word [] (next ∷ later) all begun = ap (λ t. cond t ((word ∷ []) ∷ groups (next ∷ later)) (onto word (groups (next ∷ later)))) begun
groups_first word (next ∷ given) rest all begun =
    ap (λ t. cond t ((word ∷ []) ∷ groups (next ∷ (given ++ rest))) (onto word (groups (next ∷ (given ++ rest))))) (not_true (and_true all).0)
    ∙ ap (onto word) (groups_first next given rest (and_true all).1 begun)

-- The groups together have all words, in order.
pub record GroupsOf (ws : List (List ℕ)) : Type 0 where
  pub first : List ℕ
  pub group : List (List ℕ)
  pub later : List (List (List ℕ))
  pub is : groups ws ≡ (first ∷ group) ∷ later
  pub within : (p : List ℕ → Bool) → list_all p ws ≡ true → list_all (list_all p) ((first ∷ group) ∷ later) ≡ true
  pub ends : (p : List ℕ → Bool) → last_is (last_is p) ((first ∷ group) ∷ later) ≡ last_is p ws

group_onto : (p : List ℕ → Bool) (x c : List ℕ) (g : List (List ℕ)) (gs : List (List (List ℕ))) → last_is (last_is p) ((x ∷ c ∷ g) ∷ gs) ≡ last_is (last_is p) ((c ∷ g) ∷ gs)
unfolding last_is
group_onto p x c g [] = refl
group_onto p x c g (v ∷ gs) = refl

group_one : (word : List ℕ) → GroupsOf (word ∷ [])
unfolding groups last_is
group_one word = record { first = word; group = []; later = []; is = refl; within = λ p all. both all refl; ends = λ p. refl }

group_more : (word next : List ℕ) (ws : List (List ℕ)) → GroupsOf (next ∷ ws) → GroupsOf (word ∷ next ∷ ws)
unfolding groups
group_more word next ws rest =
    elim_bool (ends_in_colon next) (λ t. ends_in_colon next ≡ t → GroupsOf (word ∷ next ∷ ws))
    (λ _ begun. record {
      first = word;
      group = [];
      later = (rest.first ∷ rest.group) ∷ rest.later;
      is = ap (λ t. cond t ((word ∷ []) ∷ groups (next ∷ ws)) (onto word (groups (next ∷ ws)))) begun ∙ ap (λ l. (word ∷ []) ∷ l) rest.is;
      within = λ p all. (let parts = and_true {a = p word} {b = list_all p (next ∷ ws)} all in both (both parts.0 refl) (rest.within p parts.1));
      ends = λ p. last_later (last_is p) (word ∷ []) (rest.first ∷ rest.group) rest.later ∙ rest.ends p ∙ sym (last_later p word next ws);
    })
    (λ _ begun. record {
      first = word;
      group = rest.first ∷ rest.group;
      later = rest.later;
      is = ap (λ t. cond t ((word ∷ []) ∷ groups (next ∷ ws)) (onto word (groups (next ∷ ws)))) begun ∙ ap (onto word) rest.is;
      within = λ p all. (let parts = and_true {a = p word} {b = list_all p (next ∷ ws)} all in
          let inner = and_true {a = list_all p (rest.first ∷ rest.group)} (rest.within p parts.1) in both (both parts.0 inner.0) inner.1);
      ends = λ p. group_onto p word rest.first rest.group rest.later ∙ rest.ends p ∙ sym (last_later p word next ws);
    }) refl

pub groups_sound : (word : List ℕ) (ws : List (List ℕ)) → GroupsOf (word ∷ ws)
groups_sound word [] = group_one word
groups_sound word (next ∷ ws) = group_more word next ws (groups_sound next ws)

-- Facts about the results of reading each member.
pub record EachOf {A B : Type 0} (f : A → Result B TextKind) (x : A) (xs : List A) (ys : List B) : Type 0 where
  pub head : B
  pub tail : List B
  pub reads : f x ≡ Ok head
  pub later : each f xs ≡ Ok tail
  pub is : ys ≡ head ∷ tail

abbrev gives : {A : Type 0} → A → Result A TextKind
gives x = Ok x

pub ok_same : {A : Type 0} (x y : A) → gives x ≡ gives y → y ≡ x
ok_same x y is = cc

pub each_cons : {A B : Type 0} (f : A → Result B TextKind) (x : A) (xs : List A) (ys : List B) → each f (x ∷ xs) ≡ Ok ys → EachOf f x xs ys
unfolding each
each_cons f x xs ys is =
    let first = bind_ok (f x) _ ys is in
    let second = bind_ok (each f xs) _ ys first.2 in
    record { head = first.0; tail = second.0; reads = first.1; later = second.1; is = ok_same (first.0 ∷ second.0) ys second.2 }

each_nothing : {A B : Type 0} (f : A → Result B TextKind) (ys : List B) → each f [] ≡ Ok ys → ys ≡ []
unfolding each
each_nothing f ys is = ok_same [] ys is

-- What holds of each result.
pub each_all : {A B : Type 0} (f : A → Result B TextKind) (p : A → Bool) (q : B → Bool) → ((x : A) (y : B) → f x ≡ Ok y → p x ≡ true → q y ≡ true) → (xs : List A) (ys : List B) → each f xs ≡ Ok ys → list_all p xs ≡ true → list_all q ys ≡ true
each_all f p q one [] ys is all = ap (list_all q) (each_nothing f ys is)
each_all f p q one (x ∷ xs) ys is all =
    let parts = each_cons f x xs ys is in
    ap (list_all q) parts.is ∙ both (one x parts.head parts.reads (and_true all).0) (each_all f p q one xs parts.tail parts.later (and_true all).1)

-- What holds of the last result.
pub each_last : {A B : Type 0} (f : A → Result B TextKind) (p : A → Bool) (q : B → Bool) → ((x : A) (y : B) → f x ≡ Ok y → p x ≡ false → q y ≡ false) → (xs : List A) (ys : List B) → each f xs ≡ Ok ys → last_is p xs ≡ false → last_is q ys ≡ false
each_last f p q one [] ys is ends = ap (last_is q) (each_nothing f ys is) ∙ last_nothing q
each_last f p q one (x ∷ []) ys is ends =
    let parts = each_cons f x [] ys is in
    ap (last_is q) (parts.is ∙ ap (λ l. parts.head ∷ l) (each_nothing f parts.tail parts.later)) ∙ last_one q parts.head
    ∙ one x parts.head parts.reads (sym (last_one p x) ∙ ends)
each_last f p q one (x ∷ w ∷ xs) ys is ends =
    let parts = each_cons f x (w ∷ xs) ys is in
    let more = each_cons f w xs parts.tail parts.later in
    let rest = each_last f p q one (w ∷ xs) parts.tail parts.later (sym (last_later p x w xs) ∙ ends) in
    ap (last_is q) (parts.is ∙ ap (λ l. parts.head ∷ l) more.is) ∙ last_later q parts.head more.head more.tail ∙ sym (ap (last_is q) more.is) ∙ rest

-- The members are read from their spellings.
pub each_are : {A B : Type 0} (f : A → Result B TextKind) (spelled : B → A) (good : B → Bool) → ((y : B) → good y ≡ true → f (spelled y) ≡ Ok y) → (ys : List B) → list_all good ys ≡ true → each f (map spelled ys) ≡ Ok ys
unfolding each
each_are f spelled good one [] all = refl
each_are f spelled good one (y ∷ ys) all =
    ap (λ r. r >>= λ z. each f (map spelled ys) >>= λ zs. Ok (z ∷ zs)) (one y (and_true all).0)
    ∙ ap (λ r. r >>= λ zs. Ok (y ∷ zs)) (each_are f spelled good one ys (and_true all).1)
