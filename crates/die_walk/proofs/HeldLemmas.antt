-- A text is stored by its place, and its end is found when it is read; for `place_in` and
-- `text_from`.
use Rattle.std.proofs.Common.{◌≡◌, ◌<◌, ◌≤◌, ◌+◌, ◌-◌, ℕ, nat_eq, nat_lt, Bool, true, false, cond, List, length, drop, get_or, Option, None, Some, is_some, refl, sym, ap, ◌∙◌, arith, position, not, take, length-drop}
use Rattle.std.specs.Option.{option_map}
use Rattle.std.proofs.Math.ListN.{drop_of_length-le}
use Rattle.std.specs.List.{position_or_len}
use Rattle.std.proofs.lemmas.List.Sums.{prefix_len_passes}
use Rattle.std.proofs.lemmas.Bool.{ltb-false}
use Rattle.std.proofs.lemmas.Bool.Decides.{nat_tests}
use Rattle.std.proofs.lemmas.List.{get_or-drop}
use Rattle.leb_cursor.specs.Texts.{front_text}
use Rattle.text_table.specs.Spaces.{held_text, held_front}
use Rattle.abbrev_units.specs.Texts.{text_in}
use Rattle.abbrev_units.proofs.TextLemmas.{text_is}
use Rattle.die_walk.specs.internal.Heads.{IsClosed, text_from}

-- In a section that ends with a zero byte each text is terminated.
mapped : {A B : Type 0} (f : A → B) (x : Option A) → is_some x ≡ true → is_some (option_map f x) ≡ true
mapped f (Some y) there = refl
mapped f None there = absurd (grind (arith, there))

found_by : (bytes : List ℕ) (place k : ℕ) (below : Bool) → nat_lt place (length bytes) ≡ below → place ≡ position_or_len (λ byte. nat_eq byte 0) bytes → k < length bytes → get_or bytes k 1 ≡ 0 → is_some (cond below (Some place) None) ≡ true
found_by bytes place k true is at there null = refl
found_by bytes place k false is at there null =
    let far : length bytes ≤ place = ltb-false _ _ is in
    let passes : not (nat_eq (get_or bytes k 1) 0) ≡ true = prefix_len_passes (λ byte. not (nat_eq byte 0)) bytes k 1 (omega (arith, far, at, there)) in
    absurd (grind (arith, nat_tests, passes, null))

closed : (bytes : List ℕ) (k : ℕ) → k < length bytes → get_or bytes k 1 ≡ 0 → is_some (position (λ byte. nat_eq byte 0) bytes) ≡ true
closed bytes k there null = found_by bytes (position_or_len (λ byte. nat_eq byte 0) bytes) k (nat_lt (position_or_len (λ byte. nat_eq byte 0) bytes) (length bytes)) refl refl there null

ended : (bytes : List ℕ) (k : ℕ) → k < length bytes → get_or bytes k 1 ≡ 0 → is_some (front_text bytes) ≡ true
unfolding front_text
ended bytes k there null = mapped (λ n. take n bytes) (position (λ byte. nat_eq byte 0) bytes) (closed bytes k there null)

behind : (bytes : List ℕ) (place : ℕ) → get_or bytes (length bytes - 1) 1 ≡ 0 → place < length bytes → is_some (front_text (drop place bytes)) ≡ true
behind bytes place last there =
    let long : length (drop place bytes) ≡ length bytes - place = length-drop place bytes in
    let same : place + (length bytes - 1 - place) ≡ length bytes - 1 = omega (arith, there) in
    ended (drop place bytes) (length bytes - 1 - place) (omega (arith, long, there))
    (get_or-drop place bytes (length bytes - 1 - place) 1 ∙ ap (λ (k : ℕ). get_or bytes k 1) same ∙ last)

open_by : (bytes : List ℕ) (place : ℕ) (said_so : Bool) → IsClosed said_so bytes → said_so ≡ true → place < length bytes → is_some (front_text (drop place bytes)) ≡ true
open_by bytes place said_so last is there = behind bytes place (grind (arith, is, last)) there

-- A place with a text: `start` is where it is held from.
held_some : (y : List ℕ) (text : Option (List ℕ)) → is_some text ≡ true → option_map (λ (t : List ℕ). y) text ≡ Some y
held_some y (Some t) found = refl
held_some y None found = absurd (grind (arith, found))

abbrev pub IsStart : List ℕ → ℕ → ℕ → Type 0
IsStart bytes place start = option_map held_text (front_text (drop place bytes)) ≡ option_map (λ (t : List ℕ). held_front (drop start bytes)) (front_text (drop place bytes))

held : (bytes : List ℕ) (place start : ℕ) → IsStart bytes place start → is_some (front_text (drop place bytes)) ≡ true → text_in bytes place ≡ text_from bytes start
held bytes place start is found = text_is bytes place ∙ is ∙ held_some (held_front (drop start bytes)) (front_text (drop place bytes)) found

pub open_text : (bytes : List ℕ) (place start : ℕ) (said_so : Bool) → IsStart bytes place start → IsClosed said_so bytes → said_so ≡ true → place < length bytes → text_in bytes place ≡ text_from bytes start
open_text bytes place start said_so from last is there = held bytes place start from (open_by bytes place said_so last is there)

map_some : (text : Option (List ℕ)) → is_some (option_map held_text text) ≡ true → is_some text ≡ true
map_some (Some t) found = refl
map_some None found = found

pub here_text : (bytes : List ℕ) (place start : ℕ) (found : Bool) → IsStart bytes place start → found ≡ is_some (text_in bytes place) → found ≡ true → text_in bytes place ≡ text_from bytes start
here_text bytes place start found from is so =
    held bytes place start from (map_some (front_text (drop place bytes)) (ap is_some (sym (text_is bytes place)) ∙ sym is ∙ so))

pub no_text : (bytes : List ℕ) (place : ℕ) (found : Bool) → found ≡ is_some (text_in bytes place) → found ≡ false → text_in bytes place ≡ None
no_text bytes place found is not_so = none_of (text_in bytes place) (sym is ∙ not_so)
  where
    none_of : (x : Option (List ℕ)) → is_some x ≡ false → x ≡ None
    none_of (Some y) not_so = absurd (grind (arith, not_so))
    none_of None not_so = refl

pub past_text : (bytes : List ℕ) (place : ℕ) → length bytes ≤ place → text_in bytes place ≡ None
unfolding front_text
past_text bytes place past = text_is bytes place ∙ ap (λ rest. option_map held_text (front_text rest)) (drop_of_length-le bytes past)

-- A place of a table of texts.
pub started : (bytes : List ℕ) (place start : ℕ) → option_map held_text (front_text (drop place bytes)) ≡ Some (held_front (drop start bytes)) → text_in bytes place ≡ text_from bytes start
started bytes place start is = text_is bytes place ∙ is

pub not_started : (bytes : List ℕ) (place : ℕ) → option_map held_text (front_text (drop place bytes)) ≡ None → text_in bytes place ≡ None
not_started bytes place is = text_is bytes place ∙ is
