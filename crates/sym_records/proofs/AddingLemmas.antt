-- Records that are spelled at the end of a text.
use Rattle.std.proofs.Common.{◌≡◌, ℕ, ◌+◌, ◌<◌, ◌≤◌, ◌∷◌, ◌++◌, Bool, List, [], length, drop, codes, Result, Ok, Err, OnOk, refl, ap, sym, ◌∙◌, append_assoc, append-nil, arith, take, ◌-◌, length-drop, get_or}
use Rattle.std.proofs.lemmas.List.{drop_all, take_all}
use Rattle.std.specs.List.{flat_map}
use Rattle.std.specs.Fmt.{decimal}
use Rattle.sym_rules.specs.Rules.{spelled_rules}
use Rattle.sym_rules.proofs.BufferLemmas.{pieces_more}
use Rattle.sym_rules.specs.declared.rules.RuleText.{RuleText}
use Rattle.sym_records.specs.Canon.{body, canon, init_front, change_front}
use Rattle.sym_records.specs.Fields.{hex, mark, spelled_range}
use Rattle.sym_records.specs.declared.line.Extent.{Extent}
use Rattle.sym_records.specs.declared.line.SymLine.TheVariants as line

pub adds_piece : {X : Type 0} (f : X → List ℕ) (xs : List X) (i : ℕ) (d : X) (old text new : List ℕ) → i < length xs → d ≡ get_or xs i d → text ≡ old ++ flat_map f (take i xs) → new ≡ text ++ f d → new ≡ old ++ flat_map f (take (i + 1) xs)
adds_piece f xs i d old text new within is first second =
    second ∙ ap (λ l. l ++ f d) first ∙ append_assoc old (flat_map f (take i xs)) (f d) ∙ ap (λ l. old ++ l) (sym (pieces_more f xs i d within is))

pub adds_all : {X : Type 0} (f : X → List ℕ) (xs : List X) (i : ℕ) (old text : List ℕ) → length xs ≤ i → text ≡ old ++ flat_map f (take i xs) → text ≡ old ++ flat_map f xs
adds_all f xs i old text past is = is ∙ ap (λ l. old ++ flat_map f l) (take_all i xs past)

-- Two pieces that were written one before the other.
two_before : (a b old behind now : List ℕ) → behind ≡ b ++ old → now ≡ a ++ behind → now ≡ (a ++ b) ++ old
two_before a b old behind now p q = q ∙ ap (λ l. a ++ l) p ∙ sym (append_assoc a b old)

pub change_before : (address : ℕ) (old behind now : List ℕ) → behind ≡ (32 ∷ hex address) ++ old → now ≡ codes "STACK CFI" ++ behind → now ≡ change_front address ++ old
unfolding change_front
change_before address old behind now p q = two_before (codes "STACK CFI") (32 ∷ hex address) old behind now p q

pub init_before : (address size : ℕ) (old behind middle now : List ℕ) → behind ≡ (32 ∷ hex size) ++ old → middle ≡ (32 ∷ hex address) ++ behind → now ≡ codes "STACK CFI INIT" ++ middle → now ≡ init_front address size ++ old
unfolding init_front
init_before address size old behind middle now p q r =
    two_before (codes "STACK CFI INIT") ((32 ∷ hex address) ++ (32 ∷ hex size)) old middle now (two_before (32 ∷ hex address) (32 ∷ hex size) old behind middle p q) r

alone : (line before : List ℕ) (end : ℕ) → length before ≤ end → line ++ drop end before ≡ line
alone line before end past = ap (λ l. line ++ l) (drop_all end before past) ∙ append-nil line

pub adds_range : (range : Extent) (old new a b before : List ℕ) (end : ℕ) → length before ≤ end → a ≡ (32 ∷ hex range.size) ++ drop end before → b ≡ (32 ∷ hex range.address) ++ a → new ≡ old ++ b → new ≡ old ++ spelled_range range
unfolding spelled_range
adds_range range old new a b before end past p q r =
    r ∙ ap (λ l. old ++ l) (two_before (32 ∷ hex range.address) (32 ∷ hex range.size) (drop end before) a b p q ∙ alone ((32 ∷ hex range.address) ++ (32 ∷ hex range.size)) before end past)

-- The pieces that were added are the line: its words, its fields and its end.
one : (o w a z : List ℕ) → ((o ++ w) ++ a) ++ z ≡ o ++ ((w ++ a) ++ z)
one o w a z = simp append_assoc refl

four : (o w a b c s d z : List ℕ) → ((((((o ++ w) ++ a) ++ b) ++ c) ++ s) ++ d) ++ z ≡ o ++ ((w ++ (a ++ (b ++ (c ++ (s ++ d))))) ++ z)
four o w a b c s d z = simp append_assoc refl

named : (o w a s n z : List ℕ) → ((o ++ (w ++ (a ++ s))) ++ n) ++ z ≡ o ++ ((w ++ (a ++ (s ++ n))) ++ z)
named o w a s n z = simp append_assoc refl

marked : (o w m a b s n z : List ℕ) → ((o ++ (w ++ (m ++ (a ++ (b ++ s))))) ++ n) ++ z ≡ o ++ ((w ++ ((m ++ a) ++ (b ++ (s ++ n)))) ++ z)
marked o w m a b s n z = simp append_assoc refl

marked_more : (o w m a b c s n z : List ℕ) → ((o ++ (w ++ (m ++ (a ++ (b ++ (c ++ s)))))) ++ n) ++ z ≡ o ++ ((w ++ ((m ++ a) ++ (b ++ (c ++ (s ++ n))))) ++ z)
marked_more o w m a b c s n z = simp append_assoc refl

numbered : (o h a b c z : List ℕ) → o ++ (h ++ (a ++ (b ++ (c ++ z)))) ≡ o ++ ((h ++ (a ++ (b ++ c))) ++ z)
numbered o h a b c z = simp append_assoc refl

ranged : (o w a b c d e z : List ℕ) → ((o ++ (w ++ (a ++ (b ++ (c ++ d))))) ++ e) ++ z ≡ o ++ ((w ++ (a ++ (b ++ (c ++ (d ++ e))))) ++ z)
ranged o w a b c d e z = simp append_assoc refl

pub adds_module : (os arch id name : List ℕ) (old a b c d e f : List ℕ) → a ≡ old ++ codes "MODULE" → b ≡ a ++ 32 ∷ os → c ≡ b ++ 32 ∷ arch → d ≡ c ++ 32 ∷ id → e ≡ d ++ 32 ∷ [] → f ≡ (e ++ name) ++ 10 ∷ [] → f ≡ old ++ canon (line.Module (record { os = os; arch = arch; id = id; name = name }))
unfolding canon body
adds_module os arch id name old a b c d e f p0 p1 p2 p3 p4 p5 =
    rw (p5, p4, p3, p2, p1, p0) (four old (codes "MODULE") (32 ∷ os) (32 ∷ arch) (32 ∷ id) (32 ∷ []) name (10 ∷ []))

pub adds_info : (text : List ℕ) (old a b c : List ℕ) → a ≡ old ++ codes "INFO" → b ≡ a ++ 32 ∷ text → c ≡ b ++ 10 ∷ [] → c ≡ old ++ canon (line.Info text)
unfolding canon body
adds_info text old a b c p0 p1 p2 =
    rw (p2, p1, p0) (one old (codes "INFO") (32 ∷ text) (10 ∷ []))

pub adds_file : (number : ℕ) (name : List ℕ) (old a b c d e : List ℕ) → a ≡ 32 ∷ [] → b ≡ (32 ∷ decimal number) ++ a → c ≡ codes "FILE" ++ b → d ≡ old ++ c → e ≡ (d ++ name) ++ 10 ∷ [] → e ≡ old ++ canon (line.File number name)
unfolding canon body
adds_file number name old a b c d e p0 p1 p2 p3 p4 =
    rw (p4, p3, p2, p1, p0) (named old (codes "FILE") (32 ∷ decimal number) (32 ∷ []) name (10 ∷ []))

pub adds_origin : (number : ℕ) (name : List ℕ) (old a b c d e : List ℕ) → a ≡ 32 ∷ [] → b ≡ (32 ∷ decimal number) ++ a → c ≡ codes "INLINE_ORIGIN" ++ b → d ≡ old ++ c → e ≡ (d ++ name) ++ 10 ∷ [] → e ≡ old ++ canon (line.Origin number name)
unfolding canon body
adds_origin number name old a b c d e p0 p1 p2 p3 p4 =
    rw (p4, p3, p2, p1, p0) (named old (codes "INLINE_ORIGIN") (32 ∷ decimal number) (32 ∷ []) name (10 ∷ []))

pub adds_func : (many : Bool) (address size params : ℕ) (name : List ℕ) (old a b c d e f g h : List ℕ) → a ≡ 32 ∷ [] → b ≡ (32 ∷ hex params) ++ a → c ≡ (32 ∷ hex size) ++ b → d ≡ (32 ∷ hex address) ++ c → e ≡ mark many ++ d → f ≡ codes "FUNC" ++ e → g ≡ old ++ f → h ≡ (g ++ name) ++ 10 ∷ [] → h ≡ old ++ canon (line.Func many address size params name)
unfolding canon body
adds_func many address size params name old a b c d e f g h p0 p1 p2 p3 p4 p5 p6 p7 =
    rw (p7, p6, p5, p4, p3, p2, p1, p0) (marked_more old (codes "FUNC") (mark many) (32 ∷ hex address) (32 ∷ hex size) (32 ∷ hex params) (32 ∷ []) name (10 ∷ []))

pub adds_public : (many : Bool) (address params : ℕ) (name : List ℕ) (old a b c d e f g : List ℕ) → a ≡ 32 ∷ [] → b ≡ (32 ∷ hex params) ++ a → c ≡ (32 ∷ hex address) ++ b → d ≡ mark many ++ c → e ≡ codes "PUBLIC" ++ d → f ≡ old ++ e → g ≡ (f ++ name) ++ 10 ∷ [] → g ≡ old ++ canon (line.Public many address params name)
unfolding canon body
adds_public many address params name old a b c d e f g p0 p1 p2 p3 p4 p5 p6 =
    rw (p6, p5, p4, p3, p2, p1, p0) (marked old (codes "PUBLIC") (mark many) (32 ∷ hex address) (32 ∷ hex params) (32 ∷ []) name (10 ∷ []))

pub adds_inline : (level call_line call_file origin : ℕ) (ranges : List Extent) (old before a b c d e f g h : List ℕ) (end : ℕ) → length before ≤ end → a ≡ (32 ∷ decimal origin) ++ drop end before → b ≡ (32 ∷ decimal call_file) ++ a → c ≡ (32 ∷ decimal call_line) ++ b → d ≡ (32 ∷ decimal level) ++ c → e ≡ codes "INLINE" ++ d → f ≡ old ++ e → g ≡ f ++ flat_map spelled_range ranges → h ≡ g ++ 10 ∷ [] → h ≡ old ++ canon (line.Inline level call_line call_file origin ranges)
unfolding canon body
adds_inline level call_line call_file origin ranges old before a b c d e f g h end past p0 p1 p2 p3 p4 p5 p6 p7 =
    let p : a ≡ 32 ∷ decimal origin = p0 ∙ alone (32 ∷ decimal origin) before end past in
    rw (p7, p6, p5, p4, p3, p2, p1, p) (ranged old (codes "INLINE") (32 ∷ decimal level) (32 ∷ decimal call_line) (32 ∷ decimal call_file) (32 ∷ decimal origin) (flat_map spelled_range ranges) (10 ∷ []))

pub adds_line : (address size number file : ℕ) (old a b c d e f : List ℕ) → a ≡ 10 ∷ [] → b ≡ (32 ∷ decimal file) ++ a → c ≡ (32 ∷ decimal number) ++ b → d ≡ (32 ∷ hex size) ++ c → e ≡ hex address ++ d → f ≡ old ++ e → f ≡ old ++ canon (line.Line address size number file)
unfolding canon body
adds_line address size number file old a b c d e f p0 p1 p2 p3 p4 p5 =
    rw (p5, p4, p3, p2, p1, p0) (numbered old (hex address) (32 ∷ hex size) (32 ∷ decimal number) (32 ∷ decimal file) (10 ∷ []))

-- The line of a frame record: its front, its rules and LF.
pub init_line : (address size : ℕ) (rules : List RuleText) → init_front address size ++ (spelled_rules rules ++ 10 ∷ []) ≡ canon (line.Init address size rules)
unfolding canon body init_front
init_line address size rules = simp append_assoc refl

pub change_line : (address : ℕ) (rules : List RuleText) → change_front address ++ (spelled_rules rules ++ 10 ∷ []) ≡ canon (line.Change address rules)
unfolding canon body change_front
change_line address rules = simp append_assoc refl

-- The part of the line that was written is added to the text.
pub tail_added : (old line text : List ℕ) (size at : ℕ) → length line ≤ size → text ≡ old ++ take (size - at) (drop at line) → text ≡ old ++ drop at line
tail_added old line text size at short is = is ∙ ap (λ l. old ++ l) (take_all (size - at) (drop at line) (omega (arith, length-drop at line)))

pub on_ok : {A F : Type 0} {P Q : Type 0} (r : Result A F) → (P → Q) → OnOk r P → OnOk r Q
on_ok (Ok x) then is = then is
on_ok (Err e) then is = tt
