-- A symbol file that is read in pieces (for `read_rest` and `read_file`).
use Rattle.std.specs.Prelude.{⊤}
use Rattle.std.proofs.Common.{◌≡◌, ℕ, zero, suc, ◌+◌, ◌-◌, ◌^◌, ◌<◌, ◌≤◌, min, cond, true, false, nat_lt, List, [], ◌++◌, length, take, Option, Some, None, Result, Ok, Err, inl, inr, refl, sym, ◌∙◌, ap, arith, subst, append_assoc, append-nil, length-append}
use Rattle.std.proofs.lemmas.Bool.{cases_lt}
use Rattle.std.proofs.lemmas.Bool.Decides.{nat_tests}
use Rattle.std.proofs.lemmas.List.{take_all, take-take, take-append-le, length-take}
use Rattle.std.proofs.Math.Seq.{take-append-add}
use Rattle.sym_edges.specs.Outside.{Files, Opens, Rose, Reads as ReadsPiece}
use Rattle.sym_edges.specs.WholeFile.{IsParted, IsWhole, HoldsFile}
use Rattle.sym_edges.proofs.ReadingLemmas.{parted_more, parted_whole}
use Rattle.sym_edges.specs.declared.fault.Stop.{Stop}
use Rattle.sym_edges.specs.declared.fault.Stop.TheVariants.{Fault, NoMemory}
use Rattle.sym_edges.specs.Outside.{MatchStop}
use Rattle.sym_rules.specs.Cuts.{split_lines}
use Rattle.sym_rules.specs.declared.text_fault.TextFault.{TextFault}
use Rattle.sym_records.specs.Reading.{with_lines, reading}
use Rattle.sym_records.specs.declared.line.SymLine.{SymLine}
use Rattle.sym_grammar.specs.Answer.{Part, Reads, answer, lifted, Feeds, but_last, last_line, whole_lines, open_line, IsUpToDate}
use Rattle.sym_grammar.specs.Input.{decided, nothing, IfNone, whole_reading, front_reading, file_reading, IsReading, SymRead, IsSteadyRead}
use Rattle.sym_grammar.specs.internal.Fed.{WasFed, HasRead, SymRest, EndsAs, refused_stop}
use Rattle.sym_grammar.specs.declared.refusal.SymRefusal.{SymRefusal}
use Rattle.sym_grammar.specs.declared.refusal.SymRefusal.TheVariants.{TooLong, Text}
use Rattle.sym_grammar.specs.declared.refusal.SymEnd.{SymEnd}
use Rattle.sym_grammar.specs.declared.refusal.SymEnd.TheVariants.{Unread, Refused}
use Rattle.sym_grammar.proofs.DecidedLemmas.{decided_more, decided_stays, decided_up}

take_nothing : {A : Type 0} (n : ℕ) → take {A = A} n [] ≡ []
take_nothing zero = refl
take_nothing (suc n) = refl

nothing_decided : decided (2 ^ 20) nothing [] ≡ Ok nothing
unfolding whole_lines open_line split_lines but_last last_line with_lines
nothing_decided = decided_up (2 ^ 20) nothing nothing [] (record { lines = refl; held = refl; short = omega arith })

parted_start : (left : Option (List ℕ)) → IsParted left [] left
parted_start None = refl
parted_start (Some bytes) = (bytes, refl, refl)

pub start_read : (limit : ℕ) (left : Option (List ℕ)) (reader : Reads) → ((bytes : List ℕ) → answer reader bytes ≡ lifted (reading bytes)) → reader ≡ record { part = nothing; stop = None } → HasRead limit left left reader 0
start_read limit left reader answers is = record {
  bytes = [];
  counted = refl;
  parted = parted_start left;
  fed = subst (WasFed reader) (sym (take_nothing limit)) (record {
    answers = answers;
    decides = nothing_decided ∙ ap (λ (r : Reads). Ok r.part) (sym is);
    going = ap (λ (r : Reads). r.stop) is;
  });
}

-- One more piece was fed.
fed_more : (old new : Reads) (bytes piece : List ℕ) → WasFed old bytes → ((more : List ℕ) → answer new more ≡ answer old (piece ++ more)) → IsUpToDate (2 ^ 20) old.part piece new.part → new.stop ≡ None → WasFed new (bytes ++ piece)
fed_more old new bytes piece fed feeds up going = record {
  answers = λ more. (feeds more ∙ fed.answers (piece ++ more) ∙ ap (λ l. lifted (reading l)) (sym (append_assoc bytes piece more)));
  decides = decided_more (2 ^ 20) nothing old.part bytes piece fed.decides ∙ decided_up (2 ^ 20) old.part new.part piece up;
  going = going;
}

front_by : (limit : ℕ) (xs ys : List ℕ) → length xs ≤ limit → take limit (xs ++ ys) ≡ take limit xs ++ take (limit - length xs) ys
front_by limit xs ys few =
    let more : limit ≡ length xs + (limit - length xs) = omega (arith, few) in
    ap (λ n. take n (xs ++ ys)) more ∙ take-append-add xs ys (limit - length xs) ∙ ap (λ l. l ++ take (limit - length xs) ys) (sym (take_all limit xs few))

twice : (m n kept : ℕ) (l : List ℕ) → kept ≡ min n m → take m (take n l) ≡ take kept l
twice m n kept l is = elim (cases_lt n m) [
  | inl low ↦
      let same : kept ≡ n = omega (arith, is, low) in
      let short : length (take n l) ≤ m = omega (arith, length-take n l, low) in
      take_all m (take n l) short ∙ ap (λ k. take k l) (sym same)
  | inr high ↦ (let same : kept ≡ m = omega (arith, is, high) in take-take m n l high ∙ ap (λ k. take k l) (sym same))
]

fed_front : (limit count n kept : ℕ) (bytes piece : List ℕ) → length bytes ≡ count → count ≤ limit → kept ≡ min n (limit - count) → take limit (bytes ++ take n piece) ≡ take limit bytes ++ take kept piece
fed_front limit count n kept bytes piece counted few is =
    front_by limit bytes (take n piece) (omega (arith, counted, few)) ∙ ap (λ l. take limit bytes ++ l) (twice (limit - length bytes) n kept piece (is ∙ ap (λ k. min n (limit - k)) (sym counted)))

pub next_read : (limit : ℕ) (left mid after : Option (List ℕ)) (reader new : Reads) (count n kept room now : ℕ) (piece fed : List ℕ) → HasRead limit left mid reader count → ReadsPiece mid n room (take n piece) after → count ≤ limit → n ≤ length piece → kept ≡ min n (limit - count) → fed ≡ take kept piece →
    ((more : List ℕ) → answer new more ≡ answer reader (fed ++ more)) → IsUpToDate (2 ^ 20) reader.part fed new.part → new.stop ≡ None → now ≡ count + n → HasRead limit left after new now
next_read limit left mid after reader new count n kept room now piece fed has reads few within is same feeds up going more = record {
  bytes = has.bytes ++ take n piece;
  counted = length-append has.bytes (take n piece) ∙ (omega (arith, has.counted, length-take n piece, within, more));
  parted = parted_more left mid after has.bytes (take n piece) n room has.parted reads;
  fed = subst (WasFed new) (ap (λ l. take limit has.bytes ++ l) same ∙ sym (fed_front limit count n kept has.bytes piece has.counted few is)) (fed_more reader new (take limit has.bytes) fed has.fed feeds up going);
}

-- A fault that the bytes so far decide.
not_longer : (limit : ℕ) (bytes : List ℕ) → length bytes ≤ limit → file_reading limit bytes ≡ whole_reading (reading bytes)
unfolding file_reading
not_longer limit bytes few =
    let no : nat_lt limit (length bytes) ≡ false = grind (arith, nat_tests) in
    ap (λ t. cond t (front_reading (decided (2 ^ 20) nothing (take limit bytes))) (whole_reading (reading bytes))) no

longer : (limit : ℕ) (bytes : List ℕ) → limit < length bytes → file_reading limit bytes ≡ front_reading (decided (2 ^ 20) nothing (take limit bytes))
unfolding file_reading
longer limit bytes more =
    let yes : nat_lt limit (length bytes) ≡ true = grind (arith, nat_tests) in
    ap (λ t. cond t (front_reading (decided (2 ^ 20) nothing (take limit bytes))) (whole_reading (reading bytes))) yes

-- The bytes that were read, and those that are left.
faulty : (limit : ℕ) (bytes rest : List ℕ) (fault : TextFault) → decided (2 ^ 20) nothing (take limit bytes) ≡ Err fault → ((more : List ℕ) → reading (take limit bytes ++ more) ≡ Err fault) → file_reading limit (bytes ++ rest) ≡ Err (Text fault)
faulty limit bytes rest fault is always = elim (cases_lt limit (length (bytes ++ rest))) [
  | inl long ↦ longer limit (bytes ++ rest) long ∙ ap front_reading (elim (cases_lt limit (length bytes)) [
    | inl past ↦ ap (decided (2 ^ 20) nothing) (take-append-le limit bytes rest (omega (arith, past))) ∙ is
    | inr few ↦ ap (decided (2 ^ 20) nothing) (front_by limit bytes rest few) ∙ decided_stays (2 ^ 20) nothing (take limit bytes) (take (limit - length bytes) rest) fault is
  ])
  | inr few ↦
      let short : length bytes ≤ limit = omega (arith, few, length-append bytes rest) in
      not_longer limit (bytes ++ rest) few ∙ ap whole_reading (ap (λ l. reading (l ++ rest)) (sym (take_all limit bytes short)) ∙ always rest)
]

fault_told : (limit : ℕ) (left after : Option (List ℕ)) (bytes : List ℕ) (fault : TextFault) → IsParted left bytes after → decided (2 ^ 20) nothing (take limit bytes) ≡ Err fault → ((more : List ℕ) → reading (take limit bytes ++ more) ≡ Err fault) → IsReading limit (Err (Text fault)) left
fault_told limit None after bytes fault parted is always = (bytes, ap (file_reading limit) (sym (append-nil bytes)) ∙ faulty limit bytes [] fault is always)
fault_told limit (Some whole) after bytes fault parted is always = ap (file_reading limit) parted.2 ∙ faulty limit bytes parted.0 fault is always

unlifted : (r : Result (List SymLine) TextFault) (fault : TextFault) → lifted r ≡ Err (Fault fault) → r ≡ Err fault
unlifted (Ok lines) fault is = cc
unlifted (Err other) fault is = let same : other ≡ fault = cc in ap Err same

-- The reader stops at a piece.
where_none : {X : Type 0} (s : Option X) (P : Type 0) → s ≡ None → IfNone s P → P
where_none None P none is = is
where_none (Some x) P none is = cc

stop_rest : (result stop : Stop SymEnd) (left : Option (List ℕ)) (limit before later : ℕ) → result ≡ stop → SymRest (Err stop) left limit before later → SymRest (Err result) left limit before later
stop_rest result stop left limit before later is rest = subst (λ (s : Stop SymEnd). SymRest (Err s) left limit before later) (sym is) rest

pub stopped_read : {B : Type 0} (A : Type 0) (P : B → Type 0) (limit : ℕ) (left mid after : Option (List ℕ)) (reader new : Reads) (count n kept room : ℕ) (piece fed : List ℕ) (stop : Stop TextFault) (result : Stop SymEnd) (before later : ℕ) → HasRead limit left mid reader count → ReadsPiece mid n room (take n piece) after → count ≤ limit → kept ≡ min n (limit - count) → fed ≡ take kept piece →
    Feeds {A = A} (Err stop) reader fed new → IfNone reader.stop (MatchStop {A = B} (Err stop) P (λ fault. decided (2 ^ 20) reader.part fed ≡ Err fault) ⊤) → result ≡ refused_stop stop → SymRest (Err result) left limit before later
stopped_read {B = B} A P limit left mid after reader new count n kept room piece fed stop result before later has reads few is same feeds decides ends =
    stop_rest result (refused_stop stop) left limit before later ends
    (go stop feeds (where_none reader.stop (MatchStop {A = B} (Err stop) P (λ fault. decided (2 ^ 20) reader.part fed ≡ Err fault) ⊤) has.fed.going decides))
  where
    go : (stop : Stop TextFault) → Feeds {A = A} (Err stop) reader fed new → MatchStop {A = B} (Err stop) P (λ fault. decided (2 ^ 20) reader.part fed ≡ Err fault) ⊤ → SymRest (Err (refused_stop stop)) left limit before later
    go (Fault fault) feeds decides =
        let bytes : List ℕ = has.bytes ++ take n piece in
        let front : take limit bytes ≡ take limit has.bytes ++ fed = fed_front limit count n kept has.bytes piece has.counted few is ∙ ap (λ l. take limit has.bytes ++ l) (sym same) in
        fault_told limit left after bytes fault (parted_more left mid after has.bytes (take n piece) n room has.parted reads)
        (ap (decided (2 ^ 20) nothing) front ∙ decided_more (2 ^ 20) nothing reader.part (take limit has.bytes) fed has.fed.decides ∙ decides)
        (λ more. ap (λ l. reading (l ++ more)) front ∙ ap reading (append_assoc (take limit has.bytes) fed more)
        ∙ unlifted (reading (take limit has.bytes ++ (fed ++ more))) fault (sym (has.fed.answers (fed ++ more)) ∙ feeds more))
    go NoMemory feeds decides = tt

-- The text ends.
pub ends_as : (stop : Stop TextFault) (reader : Reads) → MatchStop {A = List SymLine} (Err stop) (λ lines. answer reader [] ≡ Ok lines) (λ fault. answer reader [] ≡ Err (Fault fault)) ⊤ → EndsAs (Err (refused_stop stop)) reader
ends_as (Fault fault) reader is = is
ends_as NoMemory reader is = tt

lifted_ok : (r : Result (List SymLine) TextFault) (lines : List SymLine) → lifted r ≡ Ok lines → whole_reading r ≡ Ok lines
lifted_ok (Ok xs) lines is = let same : xs ≡ lines = cc in ap Ok same
lifted_ok (Err fault) lines is = cc

whole_told : (limit : ℕ) (left : Option (List ℕ)) (bytes : List ℕ) (read : Result (List SymLine) SymRefusal) → IsWhole left bytes limit → whole_reading (reading bytes) ≡ read → IsReading limit read left
whole_told limit None bytes read whole is = (bytes, not_longer limit bytes whole ∙ is)
whole_told limit (Some all) bytes read whole is = ap (file_reading limit) whole.0 ∙ not_longer limit bytes whole.1 ∙ is

pub ended_read : (limit : ℕ) (left mid after : Option (List ℕ)) (reader : Reads) (count n room : ℕ) (front : List ℕ) (result : Result (List SymLine) (Stop SymEnd)) (before later : ℕ) → HasRead limit left mid reader count → ReadsPiece mid n room front after → n ≡ 0 → 0 < room → count ≤ limit → EndsAs result reader → SymRest result left limit before later
ended_read limit left mid after reader count n room front result before later has reads none some few ends = go result ends
  where
    few_bytes : length has.bytes ≤ limit
    few_bytes = omega (arith, has.counted, few)

    whole : IsWhole left has.bytes limit
    whole = parted_whole left mid after has.bytes front room limit has.parted (subst (λ (k : ℕ). ReadsPiece mid k room front after) none reads) some few_bytes

    all : answer reader [] ≡ lifted (reading has.bytes)
    all = has.fed.answers [] ∙ ap (λ l. lifted (reading l)) (append-nil (take limit has.bytes) ∙ take_all limit has.bytes few_bytes)

    go : (result : Result (List SymLine) (Stop SymEnd)) → EndsAs result reader → SymRest result left limit before later
    go (Ok lines) is = whole_told limit left has.bytes (Ok lines) whole (lifted_ok (reading has.bytes) lines (sym all ∙ is))
    go (Err (Fault Unread)) is = absurd is
    go (Err (Fault (Refused TooLong))) is = absurd is
    go (Err (Fault (Refused (Text fault)))) is = whole_told limit left has.bytes (Err (Text fault)) whole (ap whole_reading (unlifted (reading has.bytes) fault (sym all ∙ is)))
    go (Err NoMemory) is = tt

-- The file has more than `limit` bytes.
longer_told : (limit : ℕ) (bytes rest : List ℕ) (part : Part) → limit < length bytes → decided (2 ^ 20) nothing (take limit bytes) ≡ Ok part → file_reading limit (bytes ++ rest) ≡ Err TooLong
longer_told limit bytes rest part long is =
    longer limit (bytes ++ rest) (omega (arith, long, length-append bytes rest))
    ∙ ap front_reading (ap (decided (2 ^ 20) nothing) (take-append-le limit bytes rest (omega (arith, long))) ∙ is)

pub longer_read : (limit : ℕ) (left after : Option (List ℕ)) (reader : Reads) (count before later : ℕ) → HasRead limit left after reader count → limit < count → SymRest (Err (Fault (Refused TooLong))) left limit before later
longer_read limit None after reader count before later has past =
    (has.bytes, ap (file_reading limit) (sym (append-nil has.bytes)) ∙ longer_told limit has.bytes [] reader.part (omega (arith, has.counted, past)) has.fed.decides)
longer_read limit (Some whole) after reader count before later has past =
    ap (file_reading limit) has.parted.2 ∙ longer_told limit has.bytes has.parted.0 reader.part (omega (arith, has.counted, past)) has.fed.decides

-- The file with this name.
rose_later : (before mid after : ℕ) → before ≤ mid → mid ≤ after → Rose mid after → Rose before after
rose_later before mid after first second rose = λ small. elim (cases_lt (mid + 1) (2 ^ 64)) [
  | inl low ↦ (let up = rose low in omega (arith, up, first))
  | inr high ↦ omega (arith, high, small, second)
]

reading_held : (limit : ℕ) (read : Result (List SymLine) SymRefusal) (files : Option Files) (name : List ℕ) (left : Option (List ℕ)) → Opens files name left → IsReading limit read left → HoldsFile files name (IsReading limit read)
reading_held limit read None name None opens is = is
reading_held limit read None name (Some bytes) opens is = (bytes, is)
reading_held limit read (Some files) name left opens is = there (files name) refl opens
  where
    there : (o : Option (List ℕ)) → files name ≡ o → Opens (Some (λ _. o)) name left → HoldsFile (Some files) name (IsReading limit read)
    there None at opened = absurd opened
    there (Some bytes) at opened = (bytes, at, subst (IsReading limit read) opened is)

pub opened_read : (result : Result (List SymLine) (Stop SymEnd)) (files : Option Files) (name : List ℕ) (limit : ℕ) (left : Option (List ℕ)) (before mid after : ℕ) → Opens files name left → before ≤ mid → mid ≤ after → SymRest result left limit mid after → SymRead result files name limit before after
opened_read (Ok lines) files name limit left before mid after opens first second rest = reading_held limit (Ok lines) files name left opens rest
opened_read (Err (Fault Unread)) files name limit left before mid after opens first second rest = rose_later before mid after first second rest
opened_read (Err (Fault (Refused why))) files name limit left before mid after opens first second rest = reading_held limit (Err why) files name left opens rest
opened_read (Err NoMemory) files name limit left before mid after opens first second rest = tt

-- If no call of the store failed, its count of faults is unchanged.
pub steady_read : (result : Result (List SymLine) (Stop SymEnd)) (before after : ℕ) → after ≡ before → IsSteadyRead result before after
steady_read (Ok lines) before after same = same
steady_read (Err (Fault Unread)) before after same = tt
steady_read (Err (Fault (Refused why))) before after same = same
steady_read (Err NoMemory) before after same = same

pub steady_behind : (result : Result (List SymLine) (Stop SymEnd)) (before mid after : ℕ) → mid ≡ before → IsSteadyRead result mid after → IsSteadyRead result before after
steady_behind (Ok lines) before mid after same is = is ∙ same
steady_behind (Err (Fault Unread)) before mid after same is = tt
steady_behind (Err (Fault (Refused why))) before mid after same is = is ∙ same
steady_behind (Err NoMemory) before mid after same is = is ∙ same
