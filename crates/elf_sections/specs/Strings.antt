-- The strings of a string table (System V gABI, "String Table").
use Rattle.std.specs.Prelude.{ℕ, List, Option, drop}
use Rattle.leb_cursor.specs.Texts.{front_text}

-- the string at an index: the bytes before the next zero byte, or `None` if no zero byte follows
unfoldable pub string_at : List ℕ → ℕ → Option (List ℕ)
string_at table at = front_text (drop at table)
