use Rattle.std.proofs.Common.{List, ℕ, Some, None, subst, arith, sym, ap, ◌∙◌, ◌≡◌, ◌<◌, length, drop}
use Rattle.std.specs.Option.{option_map}
use Rattle.leb_cursor.specs.Texts.{front_text}
use Rattle.text_table.specs.Spaces.{held_text, held_front}
use Rattle.text_table.specs.Ends.{later_start}
use Rattle.text_table.proofs.SpaceLemmas.{no_start, start_here, start_behind, inside, later_inside}
use Rattle.text_table.proofs.table.TextTable.start.Goals as goal

pub returns-then-place-self-clause-text : goal.returns-then-place-self-clause-text
returns-then-place-self-clause-text c =
    subst (λ (t : List ℕ). option_map held_text (front_text (drop c.args.place t)) ≡ None) c.self.view_is
    (no_start c.self.inside.bytes.now c.args.place c.self.inside.end (c.self.invariant.ends c.args.place) c.if-place-self.true)

pub later_start-requires : goal.later_start-requires
later_start-requires c =
    subst (λ (t : List ℕ). c.args.place < length t) c.self.view_is
    (inside c.self.inside.bytes.now c.args.place c.self.inside.end (c.self.invariant.ends c.args.place) c.if-place-self.false)

pub returns-then-not-self-clause-text : goal.returns-then-not-self-clause-text
returns-then-not-self-clause-text c =
    let within = inside c.self.inside.bytes.now c.args.place c.self.inside.end (c.self.invariant.ends c.args.place) c.if-place-self.false in
    subst (λ (t : List ℕ). option_map held_text (front_text (drop c.args.place t)) ≡ Some (held_front (drop c.args.place t))) c.self.view_is
    (start_here c.self.inside.bytes.now c.args.place c.self.inside.end (c.self.invariant.ends c.args.place) c.if-place-self.false (c.self.invariant.near c.if-not-self.true c.args.place (omega (arith, within))))

pub returns-then-not-self-clause-inside : goal.returns-then-not-self-clause-inside
returns-then-not-self-clause-inside c =
    subst (λ (t : List ℕ). c.args.place < length t) c.self.view_is
    (inside c.self.inside.bytes.now c.args.place c.self.inside.end (c.self.invariant.ends c.args.place) c.if-place-self.false)

pub returns-clause-text : goal.returns-clause-text
returns-clause-text c =
    subst (λ (t : List ℕ). option_map held_text (front_text (drop c.args.place t)) ≡ Some (held_front (drop (later_start t c.args.place) t))) c.self.view_is
    (start_behind c.self.inside.bytes.now c.args.place c.self.inside.end (c.self.invariant.ends c.args.place) c.if-place-self.false)
    ∙ ap (λ n. Some (held_front (drop n c.args.self.now))) (sym c.later_start.ensures)

pub returns-clause-inside : goal.returns-clause-inside
returns-clause-inside c =
    let below = subst (λ (t : List ℕ). c.args.place < length t) c.self.view_is
    (inside c.self.inside.bytes.now c.args.place c.self.inside.end (c.self.invariant.ends c.args.place) c.if-place-self.false) in
    subst (λ (n : ℕ). n < length c.args.self.now) (sym c.later_start.ensures) (later_inside c.args.self.now c.args.place below)
