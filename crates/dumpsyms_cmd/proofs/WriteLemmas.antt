-- What the sinks have after an answer is written.
use Rattle.std.proofs.Common.{◌≡◌, inl, inr, ℕ, Bool, true, false, List, [], length, Option, Some, None, refl, sym, ◌∙◌, ap, arith, append-nil, subst}
use Rattle.std.proofs.lemmas.List.{take_all}
use Rattle.sym_edges.specs.Outside.{append_told}
use Rattle.dumpsyms_cmd.specs.Verdict.{Verdict, unread_by, no_memory}
use Rattle.dumpsyms_cmd.specs.Observed.{SinkSeen, SinkFailed, Received, ReceivedFront, ReceivedNothing}
use Rattle.dumpsyms_cmd.specs.internal.Writes.{Says, Writes}

-- Nothing more was taken.
pub nothing : (held : Option (List ℕ)) → append_told held [] ≡ held
nothing None = refl
nothing (Some bytes) = ap Some (append-nil bytes)

-- Nothing was taken, which is a prefix of the text.
no_front : (sink : SinkSeen) (text : List ℕ) → ReceivedNothing sink → ReceivedFront sink text
no_front sink text same = record { count = 0; within = omega arith; added = same ∙ sym (nothing sink.taken) }

-- A whole text is a prefix of itself.
whole_front : (sink : SinkSeen) (text : List ℕ) → Received sink text → ReceivedFront sink text
whole_front sink text is = record { count = length text; within = omega arith; added = is ∙ ap (append_told sink.taken) (sym (take_all (length text) text (omega arith))) }

-- The text on out was written whole, and then that on err.
pub said_behind : (result : ℕ) (v : Verdict) (has : Bool) (out err : SinkSeen) (line : List ℕ) → Received out v.out → line ≡ v.err → Says result v.status err line → Writes result v has out err
said_behind result v has out err line took is (inl whole) = inl (whole.0, record { out_text = took; err_text = whole.1 ∙ ap (append_told err.taken) is })
said_behind result v has out err line took is (inr failed) =
    let P : List ℕ → Type 0 = λ text. ReceivedFront err text in
    inr (failed.0, record { out_text = whole_front out v.out took; err_text = subst P is failed.1; order = inr took }, inr failed.2)

-- The text on out was not written whole.
pub not_said : (result : ℕ) (v : Verdict) (has : Bool) (out err : SinkSeen) → result ≡ 4 → ReceivedFront out v.out → SinkFailed out → has ≡ true → ReceivedNothing err → Writes result v has out err
not_said result v has out err four front failed some same = inr (four, record { out_text = front; err_text = no_front err v.err same; order = inl same }, inl (some, failed))

-- A line was written on err only.
pub line_said : (result : ℕ) (out err : SinkSeen) (line text : List ℕ) → ReceivedNothing out → line ≡ text → Says result 3 err line → Writes result (unread_by text) false out err
line_said result out err line text same is says = said_behind result (unread_by text) false out err line (same ∙ sym (nothing out.taken)) is says

-- Nothing was written.
pub nothing_said : (result : ℕ) (out err : SinkSeen) → result ≡ 5 → ReceivedNothing out → ReceivedNothing err → Writes result no_memory false out err
nothing_said result out err five same quiet = inl (five, record { out_text = same ∙ sym (nothing out.taken); err_text = quiet ∙ sym (nothing err.taken) })
