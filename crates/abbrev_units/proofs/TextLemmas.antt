-- Readings at a place of a section.
use Rattle.std.proofs.Common.{◌≡◌, ◌<◌, ℕ, Bool, true, false, List, [], length, take, drop, Option, Some, None, refl, ap, ◌∙◌, arith}
use Rattle.std.proofs.Math.Seq.{take-length}
use Rattle.std.proofs.Math.ListN.{drop_of_length-le}
use Rattle.std.specs.Option.{option_map}
use Rattle.leb_cursor.specs.Ahead.{Ahead}
use Rattle.leb_cursor.specs.Texts.{front_text}
use Rattle.leb_cursor.specs.Readings.{fixed_at, text_at, text_by}
use Rattle.text_table.specs.Spaces.{held_text}
use Rattle.abbrev_units.specs.Texts.{ahead_from, read_or_none, place_width, text_in, number_in}

-- What a cursor up to the end of the section has ahead.
pub whole_ahead : (bytes : List ℕ) (place : ℕ) → (let ahead : Ahead = record { bytes = drop place (take (length bytes) bytes); at = place } in ahead) ≡ ahead_from place bytes
whole_ahead bytes place = ap (λ (all : List ℕ). record { bytes = drop place all; at = place }) (take-length bytes)

-- After the end of the section no bytes are ahead.
beyond : (bytes : List ℕ) (place : ℕ) → length bytes < place → ahead_from place bytes ≡ record { bytes = []; at = place }
beyond bytes place far = ap (λ (rest : List ℕ). record { bytes = rest; at = place }) (drop_of_length-le bytes (omega arith))

pub text_beyond : (bytes : List ℕ) (place : ℕ) → length bytes < place → text_in bytes place ≡ None
unfolding text_in text_at front_text
text_beyond bytes place far = ap (λ (c : Ahead). option_map held_text (read_or_none (text_at c))) (beyond bytes place far)

-- The text at a place is the text at the start of the bytes from there on.
read_by : (c : Ahead) (text : Option (List ℕ)) → read_or_none (text_by c text) ≡ text
read_by c (Some text) = refl
read_by c None = refl

pub text_is : (bytes : List ℕ) (place : ℕ) → text_in bytes place ≡ option_map held_text (front_text (drop place bytes))
unfolding text_in text_at
text_is bytes place = ap (option_map held_text) (read_by (ahead_from place bytes) (front_text (drop place bytes)))

none_there : (wide : Bool) (place : ℕ) → read_or_none (fixed_at (place_width wide) (record { bytes = []; at = place })) ≡ None
unfolding fixed_at
none_there true place = refl
none_there false place = refl

pub number_beyond : (bytes : List ℕ) (place : ℕ) (wide : Bool) → length bytes < place → number_in (place_width wide) bytes place ≡ None
unfolding number_in
number_beyond bytes place wide far =
    ap (λ (c : Ahead). read_or_none (fixed_at (place_width wide) c)) (beyond bytes place far) ∙ none_there wide place
