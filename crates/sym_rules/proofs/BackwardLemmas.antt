-- Text that is written backward (for `write_byte`, `write_bytes` and `write_last`).
use Rattle.std.proofs.Common.{◌≡◌, ℕ, ◌+◌, ◌-◌, ◌≤◌, ◌∷◌, ◌++◌, List, [], length, take, drop, set, ap, ◌∙◌, arith, append-nil, length-take}
use Rattle.std.proofs.lemmas.List.{drop-set, drop_all, drop_at, drop-drop}
use borrow.Rule.Slice.PartMut.{put_mid}

-- The last byte of a line.
pub last_byte : (line : List ℕ) (start byte : ℕ) → start + 1 ≡ length line → drop start (set line start byte) ≡ byte ∷ []
last_byte line start byte is = drop-set line start byte (omega arith) ∙ ap (λ l. byte ∷ l) (drop_all (start + 1) line (omega arith))

-- A byte before the text that begins at `end`.
pub byte_before : (line : List ℕ) (start end byte : ℕ) → start + 1 ≡ end → end ≤ length line → drop start (set line start byte) ≡ byte ∷ drop end line
byte_before line start end byte is within = drop-set line start byte (omega arith) ∙ ap (λ k. byte ∷ drop k line) is

-- Bytes before the text that begins at `end`.
pub bytes_before : (line bytes : List ℕ) (start end : ℕ) → start + length bytes ≡ end → end ≤ length line → drop start (put_mid start (end - start) line bytes) ≡ bytes ++ drop end line
bytes_before line bytes start end is within =
    let long : length (take start line) ≡ start = omega (arith, length-take start line) in
    let behind : start + (end - start) ≡ end = omega arith in
    drop_at (take start line) (bytes ++ drop (end - start) (drop start line)) start long
    ∙ ap (λ l. bytes ++ l) (drop-drop (end - start) start line ∙ ap (λ k. drop k line) behind)

-- A line that was written from its end has nothing after the text.
pub nothing_behind : (line old text : List ℕ) (end : ℕ) → length old ≤ end → line ≡ text ++ drop end old → line ≡ text
nothing_behind line old text end past is = is ∙ ap (λ l. text ++ l) (drop_all end old past) ∙ append-nil text
