-- Lemmas about the reasons for which entries are left out, for `reasons_are_of_fields`.
use Rattle.std.proofs.Common.{ℕ, Bool, true, false, not, ◌&&◌, nat_eq, cond, List, [], ◌∷◌, drop, map, Option, None, Some, Result, Ok, Err}
use Rattle.std.specs.Option.{IfSome, option_and_then}
use Rattle.std.specs.List.{filter, find}
use Rattle.sym_edges.specs.declared.part.Sect.{Sect}
use Rattle.sym_edges.specs.declared.reason.Reason.{Reason}
use Rattle.sym_edges.specs.declared.reason.Reason.TheVariants as reason
use Rattle.leb_cursor.specs.declared.fault.CursorFault.{CursorFault}
use Rattle.sym_edges.specs.Results.{◌>>=◌}
use Rattle.leb_cursor.specs.Ahead.{Ahead}
use Rattle.leb_cursor.specs.Readings.{fixed_at, text_at}
use Rattle.frame_entries.specs.declared.numbers.Numbers.{Numbers}
use Rattle.frame_entries.specs.declared.augmentation.Encodings.{Encodings}
use Rattle.frame_entries.specs.declared.cie.Cie.{Cie}
use Rattle.frame_entries.specs.Pointers.{format_of, is_encoding, number_at}
use Rattle.frame_entries.specs.Raw.{Raw}
use Rattle.frame_entries.specs.Listing.{from_start}
use Rattle.frame_entries.specs.CieFields.{CieFields}
use Rattle.frame_entries.specs.FdeFields.{FdeFields}
use Rattle.frame_entries.specs.Cies.{or_cie, is_version, is_understood, is_augmented, numbers_at, augmentation_at, is_personality, personality_at, encoding_at, letter_at, letters_at, encodings_of, cie_fields, cie_behind, cie_of}
use Rattle.frame_entries.specs.FrameEntries.{IsOfFields, reason_in, is_cie, cie_at, cies_of, cie_place, cie_from, cie_named, address_at, fde_of, body_read, body_under, body_by, entry_of}

-- If something is refused, the reason comes from fields.
abbrev pub OfFields : {A : Type 0} → Result A Reason → Type 0
OfFields (Ok x) = Unit {0}
OfFields (Err why) = IsOfFields why

then : {A B : Type 0} (reading : Result A Reason) (next : A → Result B Reason) → OfFields reading → ((x : A) → OfFields (next x)) → OfFields (reading >>= next)
then (Ok x) next first later = later x
then (Err why) next first later = first

unread : {A : Type 0} (reading : Result A CursorFault) → OfFields (or_cie reading)
unread (Ok x) = tt
unread (Err fault) = tt

either : {A : Type 0} (test : Bool) (given other : Result A Reason) → OfFields given → OfFields other → OfFields (cond test given other)
either true given other first second = first
either false given other first second = second

encoding_reason : (before : Encodings) (c : Ahead) → OfFields (encoding_at before c)
unfolding encoding_at
encoding_reason before c =
    then (or_cie (fixed_at 1 c)) (λ encoding. Ok (record { pointer = encoding.0; known = before.known && is_encoding encoding.0 }, encoding.1))
    (unread (fixed_at 1 c)) (λ encoding. tt)

personality_reason : (before : Encodings) (c : Ahead) → OfFields (personality_at before c)
unfolding personality_at
personality_reason before c =
    then (or_cie (fixed_at 1 c))
    (λ encoding. cond (nat_eq encoding.0 0xff) (Ok (before, encoding.1))
    (cond (is_personality encoding.0) (or_cie (number_at (format_of encoding.0) encoding.1) >>= λ n. Ok (before, n.1)) (Err reason.Encoding)))
    (unread (fixed_at 1 c))
    (λ encoding. either (nat_eq encoding.0 0xff) (Ok (before, encoding.1))
    (cond (is_personality encoding.0) (or_cie (number_at (format_of encoding.0) encoding.1) >>= λ n. Ok (before, n.1)) (Err reason.Encoding)) tt
    (either (is_personality encoding.0) (or_cie (number_at (format_of encoding.0) encoding.1) >>= λ n. Ok (before, n.1)) (Err reason.Encoding)
    (then (or_cie (number_at (format_of encoding.0) encoding.1)) (λ n. Ok (before, n.1)) (unread (number_at (format_of encoding.0) encoding.1)) (λ n. tt)) tt))

letter_reason : (letter : ℕ) (before : Encodings) (c : Ahead) → OfFields (letter_at letter before c)
unfolding letter_at
letter_reason letter before c =
    either (nat_eq letter 82) (encoding_at before c)
    (cond (nat_eq letter 80) (personality_at before c)
    (cond (nat_eq letter 76) (or_cie (fixed_at 1 c) >>= λ encoding. Ok (before, encoding.1)) (Ok (before, c))))
    (encoding_reason before c)
    (either (nat_eq letter 80) (personality_at before c)
    (cond (nat_eq letter 76) (or_cie (fixed_at 1 c) >>= λ encoding. Ok (before, encoding.1)) (Ok (before, c)))
    (personality_reason before c)
    (either (nat_eq letter 76) (or_cie (fixed_at 1 c) >>= λ encoding. Ok (before, encoding.1)) (Ok (before, c))
    (then (or_cie (fixed_at 1 c)) (λ encoding. Ok (before, encoding.1)) (unread (fixed_at 1 c)) (λ encoding. tt)) tt))

letters_reason : (letters : List ℕ) (before : Encodings) (c : Ahead) → OfFields (letters_at letters before c)
unfolding letters_at
letters_reason [] before c = tt
letters_reason (letter ∷ letters) before c =
    then (letter_at letter before c) (λ after. letters_at letters after.0 after.1) (letter_reason letter before c)
    (λ after. letters_reason letters after.0 after.1)

encodings_reason : (text augmentation : List ℕ) → OfFields (encodings_of text augmentation)
unfolding encodings_of
encodings_reason text augmentation = letters_reason (drop 1 text) (record { pointer = 0; known = true }) (from_start augmentation)

fields_by : (known column : Bool) (fields : CieFields) → OfFields (cond (not known) (Err reason.Encoding) (cond (not column) (Err reason.Column) (Ok fields)))
fields_by false column fields = tt
fields_by true false fields = tt
fields_by true true fields = tt

fields_reason : (augmented : Bool) (numbers : Numbers) (encodings : Encodings) (first : List ℕ) → OfFields (cie_fields augmented numbers encodings first)
unfolding cie_fields
fields_reason augmented numbers encodings first = fields_by encodings.known (nat_eq numbers.column 16) _

judged_reason : (sizes augmented : Bool) (numbers : Numbers) (text augmentation first : List ℕ) → OfFields (cond sizes (encodings_of text augmentation >>= λ encodings. cie_fields augmented numbers encodings first) (Err reason.Cie))
judged_reason false augmented numbers text augmentation first = tt
judged_reason true augmented numbers text augmentation first =
    then (encodings_of text augmentation) (λ encodings. cie_fields augmented numbers encodings first) (encodings_reason text augmentation)
    (λ encodings. fields_reason augmented numbers encodings first)

behind_reason : (version : ℕ) (text body : List ℕ) (c : Ahead) → OfFields (cie_behind version text body c)
unfolding cie_behind
behind_reason version text body c =
    then (or_cie (numbers_at version c))
    (λ numbers. or_cie (augmentation_at (is_augmented text) numbers.1) >>= λ augmentation.
    cond numbers.0.sizes (encodings_of text augmentation.0 >>= λ encodings. cie_fields (is_augmented text) numbers.0 encodings (drop augmentation.1.at body)) (Err reason.Cie))
    (unread (numbers_at version c))
    (λ numbers. then (or_cie (augmentation_at (is_augmented text) numbers.1))
    (λ augmentation. cond numbers.0.sizes (encodings_of text augmentation.0 >>= λ encodings. cie_fields (is_augmented text) numbers.0 encodings (drop augmentation.1.at body)) (Err reason.Cie))
    (unread (augmentation_at (is_augmented text) numbers.1))
    (λ augmentation. judged_reason numbers.0.sizes (is_augmented text) numbers.0 text augmentation.0 (drop augmentation.1.at body)))

text_reason : (known understood : Bool) (version : ℕ) (text body : List ℕ) (c : Ahead) → OfFields (cond known (cond understood (cie_behind version text body c) (Err reason.Augmentation)) (Err reason.Cie))
text_reason false understood version text body c = tt
text_reason true false version text body c = tt
text_reason true true version text body c = behind_reason version text body c

cie_reason : (body : List ℕ) → OfFields (cie_of body)
unfolding cie_of
cie_reason body =
    then (or_cie (fixed_at 1 (from_start body)))
    (λ version. or_cie (text_at version.1) >>= λ text.
    cond (is_version version.0) (cond (is_understood text.0) (cie_behind version.0 text.0 body text.1) (Err reason.Augmentation)) (Err reason.Cie))
    (unread (fixed_at 1 (from_start body)))
    (λ version. then (or_cie (text_at version.1))
    (λ text. cond (is_version version.0) (cond (is_understood text.0) (cie_behind version.0 text.0 body text.1) (Err reason.Augmentation)) (Err reason.Cie))
    (unread (text_at version.1))
    (λ text. text_reason (is_version version.0) (is_understood text.0) version.0 text.0 body text.1))

-- A CIE that was found has fields, or a reason that comes from fields.
abbrev pub FoundOfFields : Option Cie → Type 0
FoundOfFields None = Unit {0}
FoundOfFields (Some cie) = OfFields cie.parts

found_by : (test : Bool) (cie : Cie) (later : Option Cie) → OfFields cie.parts → FoundOfFields later → FoundOfFields (cond test (Some cie) later)
found_by true cie later here rest = here
found_by false cie later here rest = rest

found : (test : Cie → Bool) (raws : List Raw) → FoundOfFields (find test (map cie_at raws))
found test [] = tt
found test (raw ∷ raws) = found_by (test (cie_at raw)) (cie_at raw) (find test (map cie_at raws)) (cie_reason raw.body) (found test raws)

named : (place : Option ℕ) (raws : List Raw) → FoundOfFields (option_and_then (cie_from (map cie_at raws)) place)
unfolding cie_from
named None raws = tt
named (Some place) raws = found (λ cie. nat_eq cie.at place) raws

read_reason : (fde : Result FdeFields CursorFault) → IfSome (reason_in (body_read fde)) IsOfFields
read_reason (Ok fde) = tt
read_reason (Err fault) = tt

under_reason : (place : ℕ) (parts : Result CieFields Reason) (base : ℕ) (body : List ℕ) → OfFields parts → IfSome (reason_in (body_under place parts base body)) IsOfFields
under_reason place (Ok cie) base body early = read_reason (fde_of place cie base body)
under_reason place (Err why) base body early = early

by_reason : (cie : Option Cie) (base : ℕ) (body : List ℕ) → FoundOfFields cie → IfSome (reason_in (body_by cie base body)) IsOfFields
by_reason None base body early = tt
by_reason (Some cie) base body early = under_reason cie.at cie.parts base body early

pub entry_reason : (which : Sect) (address : ℕ) (raws : List Raw) (raw : Raw) → IfSome (reason_in (entry_of which address (cies_of which raws) raw).body) IsOfFields
unfolding entry_of cie_named cies_of
entry_reason which address raws raw =
    by_reason (option_and_then (cie_from (map cie_at (filter (is_cie which) raws))) (cie_place which raw)) (address_at address raw.body_at) raw.body
    (named (cie_place which raw) (filter (is_cie which) raws))
