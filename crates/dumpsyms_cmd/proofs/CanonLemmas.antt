-- The records of a file are its canonical ones, and a look-up in them names the owner and the line
-- of each address.
use Rattle.std.proofs.Common.{◌≡◌, ℕ, zero, suc, ◌+◌, true, map, take, List, [], ◌∷◌, ◌++◌, None, Some, Ok, arith, sym, ap, subst, ◌∙◌, append_assoc, append-nil}
use Rattle.std.specs.List.{list_all, slice_get}
use Rattle.std.proofs.lemmas.List.{map-append}
use Rattle.sym_edges.specs.Addresses.{Range}
use Rattle.elf_sections.specs.Image.{ImageParts}
use Rattle.range_set.specs.Starts.{AllFrom}
use Rattle.sym_records.specs.Canon.{canon, canon_text}
use Rattle.sym_records.specs.Reading.{leads, reading}
use Rattle.sym_records.specs.Spelled.{records_in, IsSpelled}
use Rattle.sym_records.specs.Validity.{first_bad, first_bad_from}
use Rattle.sym_records.specs.declared.place.Place.TheVariants.{Inside}
use Rattle.sym_records.specs.declared.line.SymLine.{SymLine}
use Rattle.sym_records.proofs.JoiningLemmas.{from_here, join_fits, join_behind}
use Rattle.sym_records.proofs.SpelledLemmas.{spelled, spelled_records}
use Rattle.sym_meaning.specs.Findings.{are_sized}
use Rattle.debug_units.specs.declared.unit_read.UnitRead.{UnitRead}
use Rattle.rule_postfix.specs.Written.{omitted, written, written_lines}
use Rattle.rule_postfix.specs.Covering.{SaysFrames}
use Rattle.rule_postfix.specs.FrameMeaning.{KeepsFrames}
use Rattle.rule_postfix.proofs.SayingLemmas.{frames_said, written_sized}
use Rattle.rule_postfix.proofs.MeaningLemmas.{frames_kept}
use Rattle.rule_postfix.specs.declared.omission.Omission.{Omission}
use Rattle.func_flatten.specs.declared.piece.Piece.{Piece}
use Rattle.func_flatten.specs.Pieces.{ArePieces}
use Rattle.func_flatten.specs.Publics.{PublicParts, publics}
use Rattle.func_records.specs.FuncRecords.{AreFuncRecords, BeginAbove}
use Rattle.func_records.specs.TextNames.{Names}
use Rattle.func_records.proofs.NameLemmas.{all_named}
use Rattle.func_records.specs.Adding.{AddsFunctions}
use Rattle.func_records.proofs.CanonLemmas.{canon_join, canon_more, canon_none, none_here}
use Rattle.debug_read.specs.DebugSays.{DebugSays, IsDebugRead}
use Rattle.debug_read.specs.declared.found.DebugRead.{DebugRead}
use Rattle.dumpsyms_cmd.specs.commands.Dump.{identity_lines, public_line, public_lines, frame_lines, written_of}
use Rattle.dumpsyms_cmd.specs.internal.Spelled.{FitsInside, HasHead, HasFrames, DumpsRead}
use Rattle.func_records.proofs.AboveLemmas.{pieces_above}
use Rattle.debug_read.proofs.KeptLemmas.{kept}
use Rattle.debug_read.proofs.OwnerLemmas.{owners_above}
use Rattle.dumpsyms_cmd.proofs.FrameLemmas.{head_frameless}
use Rattle.dumpsyms_cmd.proofs.AroundLemmas.{identity_plain, identity_no_file, identity_no_origin, behind_plain}
use Rattle.dumpsyms_cmd.proofs.FindingLemmas.{file_clean}

-- What a look-up in the records of a file names.
pub file_named : (image : ImageParts) (name : List ℕ) (found : DebugSays) (units : List UnitRead) (pieces : List Piece) (functions lines : List SymLine) → BeginAbove image.base pieces → ArePieces units pieces → AreFuncRecords image.base units pieces functions → lines ≡ identity_lines image name ++ (functions ++ (public_lines image pieces ++ frame_lines image found)) → (x : ℕ) → Names image.base units lines x
file_named image name found units pieces functions lines above pieced records whole x =
    subst (λ (l : List SymLine). Names image.base units l x) (sym whole)
    (all_named image.base units pieces (identity_lines image name) functions (public_lines image pieces ++ frame_lines image found) pieced
    above records (identity_plain image name) (identity_no_file image name) (identity_no_origin image name) (behind_plain image pieces found) x)

-- The records before those of frames: of the binary, of functions and of symbols.
pub head_spelled : (image : ImageParts) (name : List ℕ) (units : List UnitRead) (pieces : List Piece) (base : ℕ) (shown : List PublicParts) (full last longer first second text : List ℕ) → base ≡ image.base → shown ≡ publics pieces image.symbols → full ++ last ≡ [] → longer ≡ last ++ canon_text (identity_lines image name) → first ≡ full ++ longer → first_bad (identity_lines image name) ≡ None → AddsFunctions base units pieces first second → text ≡ second ++ canon_text (map (public_line base) shown) → first_bad_from 0 Inside (map (public_line base) shown) ≡ None → ArePieces units pieces → HasHead image name units text
head_spelled image name units pieces base shown full last longer first second text low these none begun same valid adds added fit pieced =
    let own : List SymLine = map (public_line base) shown in
    let publics_are : own ≡ public_lines image pieces = ap (λ b. map (public_line b) shown) low ∙ ap (map (public_line image.base)) these in
    let begin : first ≡ canon_text (identity_lines image name) = same ∙ ap (λ t. full ++ t) begun ∙ sym (append_assoc full last (canon_text (identity_lines image name))) ∙ ap (λ t. t ++ canon_text (identity_lines image name)) none in
    record {
      pieces = pieces;
      pieces_are = pieced;
      functions = adds.records;
      are = subst (λ b. AreFuncRecords b units pieces adds.records) low adds.are;
      text_is = added ∙ ap (λ t. t ++ canon_text own) (adds.text ∙ ap (λ t. t ++ canon_text adds.records) begin)
          ∙ append_assoc (canon_text (identity_lines image name)) (canon_text adds.records) (canon_text own)
          ∙ ap (λ t. canon_text (identity_lines image name) ++ t) (sym (canon_join adds.records own) ∙ ap (λ l. canon_text (adds.records ++ l)) publics_are)
          ∙ sym (canon_join (identity_lines image name) (adds.records ++ public_lines image pieces));
      below = adds.below;
      valid = join_fits (identity_lines image name) (adds.records ++ public_lines image pieces) valid
          (join_behind adds.records (public_lines image pieces) adds.fit (subst (λ (l : List SymLine). first_bad_from 0 Inside l ≡ None) publics_are fit));
    }

-- One record of a symbol more.
take_more : {X : Type 0} (xs : List X) (n : ℕ) (x : X) → slice_get xs n ≡ Some x → take (n + 1) xs ≡ take n xs ++ x ∷ []
take_more [] n x is = absurd (cc)
take_more (y ∷ xs) zero x is = ap (λ z. z ∷ []) (let same : y ≡ x = cc in same)
take_more (y ∷ xs) (suc n) x is =
    let next : suc n + 1 ≡ suc (n + 1) = omega arith in
    ap (λ k. take k (y ∷ xs)) next ∙ ap (λ zs. y ∷ zs) (take_more xs n x is)

lines_more : {X : Type 0} (f : X → SymLine) (xs : List X) (n : ℕ) (x : X) → slice_get xs n ≡ Some x → map f (take (n + 1) xs) ≡ map f (take n xs) ++ f x ∷ []
lines_more f xs n x is = ap (map f) (take_more xs n x is) ∙ map-append f (take n xs) (x ∷ [])

pub line_text : {X : Type 0} (f : X → SymLine) (xs : List X) (n : ℕ) (x : X) (full old mid last after new : List ℕ) → slice_get xs n ≡ Some x → full ++ mid ≡ old ++ canon_text (map f (take n xs)) → last ≡ mid ++ canon (f x) → after ≡ full ++ last → new ≡ after → new ≡ old ++ canon_text (map f (take (n + 1) xs))
line_text f xs n x full old mid last after new is so added all turned =
    turned ∙ all ∙ ap (λ t. full ++ t) added ∙ sym (append_assoc full mid (canon (f x))) ∙ ap (λ t. t ++ canon (f x)) so
    ∙ append_assoc old (canon_text (map f (take n xs))) (canon (f x))
    ∙ ap (λ t. old ++ t) (ap (λ t. canon_text (map f (take n xs)) ++ t) (sym (canon_more (f x) [] ∙ ap (λ t. canon (f x) ++ t) canon_none ∙ append-nil (canon (f x))))
    ∙ sym (canon_join (map f (take n xs)) (f x ∷ []))
    ∙ sym (ap canon_text (lines_more f xs n x is)))

pub line_fit : {X : Type 0} (f : X → SymLine) (xs : List X) (n : ℕ) (x : X) → slice_get xs n ≡ Some x → first_bad_from 0 Inside (map f (take n xs)) ≡ None → FitsInside (f x) → first_bad_from 0 Inside (map f (take (n + 1) xs)) ≡ None
line_fit f xs n x is so fits =
    ap (first_bad_from 0 Inside) (lines_more f xs n x is)
    ∙ join_behind (map f (take n xs)) (f x ∷ []) so (from_here 0 Inside (f x) [] fits.0 fits.1 (none_here 1 (leads Inside (f x))))

-- The text of a file: first the text of the records before those of frames, then that of frames.
pub whole_spelled : (front rest text : List ℕ) (head written : List SymLine) → front ≡ canon_text head → first_bad head ≡ None → rest ≡ canon_text written → first_bad_from 0 Inside written ≡ None → text ≡ front ++ rest → IsSpelled text
whole_spelled front rest text head written are valid frames good is =
    spelled (head ++ written) text (join_fits head written valid good) (is ∙ ap (λ t. t ++ rest) are ∙ ap (λ t. canon_text head ++ t) frames ∙ sym (canon_join head written))

pub whole_records : (front rest text : List ℕ) (head written : List SymLine) → front ≡ canon_text head → first_bad head ≡ None → rest ≡ canon_text written → first_bad_from 0 Inside written ≡ None → text ≡ front ++ rest → records_in text ≡ head ++ written
whole_records front rest text head written are valid frames good is =
    spelled_records (head ++ written) text (join_fits head written valid good) (is ∙ ap (λ t. t ++ rest) are ∙ ap (λ t. canon_text head ++ t) frames ∙ sym (canon_join head written))

pub mapped_at : {X Y : Type 0} (f : X → Y) (xs : List X) (n : ℕ) (x : X) → slice_get xs n ≡ Some x → slice_get (map f xs) n ≡ Some (f x)
mapped_at f [] n x is = absurd (cc)
mapped_at f (y ∷ xs) zero x is = ap (λ z. Some (f z)) (let same : y ≡ x = cc in same)
mapped_at f (y ∷ xs) (suc n) x is = mapped_at f xs n x is

-- The dump of a file that was read.
pub file_dumped : (image : ImageParts) (name : List ℕ) (read : DebugRead) (lines : List SymLine) (left : List Omission) (head rest : List ℕ) → IsDebugRead image read → (front : HasHead image name read.units head) → HasFrames image read rest left → lines ≡ (identity_lines image name ++ (front.functions ++ public_lines image front.pieces)) ++ written_lines image.base (written image.code read.first read.second) → reading (canon_text lines) ≡ Ok lines → DumpsRead image name read lines left
file_dumped image name read lines left head rest is front framed are reads =
    let above : AllFrom image.base image.code = framed.above in
    let pieces : List Piece = front.pieces in
    let pieced : ArePieces read.units pieces = front.pieces_are in
    let k = kept image read is in
    let same : written image.code read.first read.second ≡ written image.code k.says.first k.says.second =
    ap (λ first. written image.code first read.second) k.first ∙ ap (written image.code k.says.first) k.second in
    let all : written_lines image.base (written image.code read.first read.second) ≡ frame_lines image k.says = ap (written_lines image.base) same in
    let whole : lines ≡ identity_lines image name ++ (front.functions ++ (public_lines image pieces ++ frame_lines image k.says)) =
    are ∙ append_assoc (identity_lines image name) (front.functions ++ public_lines image pieces) (written_lines image.base (written image.code read.first read.second))
    ∙ ap (λ l. identity_lines image name ++ l) (append_assoc front.functions (public_lines image pieces) (written_lines image.base (written image.code read.first read.second)) ∙ ap (λ l. front.functions ++ (public_lines image pieces ++ l)) all) in
    let begin : BeginAbove image.base pieces = pieces_above image.base read.units pieces (owners_above image read is above) pieced in
    let front_lines : List SymLine = identity_lines image name ++ (front.functions ++ public_lines image pieces) in
    let split : lines ≡ front_lines ++ frame_lines image k.says = are ∙ ap (λ l. front_lines ++ l) all in
    let frames : SaysFrames image.base (written_of image k.says) lines =
    subst (SaysFrames image.base (written_of image k.says)) (sym split)
    (frames_said image.base image.code k.says.first k.says.second front_lines above (head_frameless image name read.units pieces front.functions front.are)) in
    let means : KeepsFrames image.base (written_of image k.says) lines =
    subst (KeepsFrames image.base (written_of image k.says)) (sym split)
    (frames_kept image.base image.code k.says.first k.says.second front_lines above (head_frameless image name read.units pieces front.functions front.are)) in
    let sized : list_all are_sized (frame_lines image k.says) ≡ true = written_sized image.base image.code k.says.first k.says.second above in
    record {
      found = k.says;
      found_is = k.says_is;
      canon = record { units = read.units; units_are = k.units; pieces = pieces; pieces_are = pieced; functions = front.functions; functions_are = front.are; whole = whole };
      left_is = framed.left_is ∙ ap (λ first. omitted image.code first read.second) k.first ∙ ap (omitted image.code k.says.first) k.second;
      reads = reads;
      frames = frames;
      means = means;
      names = file_named image name k.says read.units pieces front.functions lines begin pieced front.are whole;
      clean = file_clean image name k.says read.units pieces front.functions lines pieced begin front.below front.are whole sized frames;
    }
