-- What follows the last slash of a text, found from the front.
use Rattle.std.proofs.Common.{◌≡◌, ℕ, Bool, true, false, List, [], ◌∷◌, refl, sym, ◌∙◌, ap, length, if◌then◌else◌}
use Rattle.std.specs.Prelude.{◌==◌, ◌||◌}
use Rattle.std.proofs.lemmas.Bool.{eq-eqb}
use Rattle.std.proofs.lemmas.List.{nil_from_length}
use Rattle.core_file.specs.Modules.{behind_slash}
use Rattle.core_file.specs.internal.Slashes.{has_slash, behind_or}

step : (has : Bool) (b : ℕ) (later name : List ℕ) → (b == 47) ≡ true → (if (true || has) then (if has then behind_slash later else if b == 47 then later else b ∷ later) else name) ≡ (if has then behind_slash later else later)
step true b later name is = refl
step false b later name is = rw is refl

-- The next byte is a slash, or it is not.
pub slash_here : (b : ℕ) (later name : List ℕ) → b ≡ 47 → behind_or later later ≡ behind_or (b ∷ later) name
unfolding behind_or behind_slash
slash_here b later name is =
    let t : (b == 47) ≡ true = eq-eqb b 47 is in
    sym (ap (λ c. if (c || has_slash later) then (if has_slash later then behind_slash later else if b == 47 then later else b ∷ later) else name) t
    ∙ step (has_slash later) b later name t)

skip : (has : Bool) (b : ℕ) (later name : List ℕ) → (if (false || has) then (if has then behind_slash later else if b == 47 then later else b ∷ later) else name) ≡ (if has then behind_slash later else name)
skip true b later name = refl
skip false b later name = refl

pub slash_none : (b : ℕ) (later name : List ℕ) → (b == 47) ≡ false → behind_or later name ≡ behind_or (b ∷ later) name
unfolding behind_or behind_slash
slash_none b later name is =
    sym (ap (λ c. if (c || has_slash later) then (if has_slash later then behind_slash later else if b == 47 then later else b ∷ later) else name) is
    ∙ skip (has_slash later) b later name)

none_by : (c has : Bool) (b : ℕ) (text : List ℕ) → (c || has) ≡ false → (if has then behind_slash text else if c then text else b ∷ text) ≡ b ∷ text
none_by true has b text none = cc
none_by false true b text none = cc
none_by false false b text none = refl

none_behind : (text : List ℕ) → has_slash text ≡ false → behind_slash text ≡ text
unfolding behind_slash
none_behind [] none = refl
none_behind (b ∷ text) none = none_by (b == 47) (has_slash text) b text none

begin_by : (has : Bool) (text : List ℕ) → has_slash text ≡ has → behind_or text text ≡ behind_slash text
unfolding behind_or
begin_by true text is = rw is refl
begin_by false text is = rw is (sym (none_behind text is))

-- The search at the start and at the end of the text.
pub slash_begin : (text : List ℕ) → behind_or text text ≡ behind_slash text
slash_begin text = begin_by (has_slash text) text refl

pub slash_end : (name : List ℕ) → behind_or [] name ≡ name
unfolding behind_or
slash_end name = refl

pub slash_done : (left name : List ℕ) → length left ≡ 0 → behind_or left name ≡ name
slash_done left name none = ap (λ l. behind_or l name) (nil_from_length left none) ∙ slash_end name
