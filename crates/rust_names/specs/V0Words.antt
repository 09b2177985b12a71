-- The words that v0 names show between their parts, and the basic types (RFC 2603, <basic-type>).
use Rattle.std.specs.Prelude.{ℕ, List, codes, ◌==◌, if◌then◌else◌, Option, Some, None}
use Rattle.rust_names.specs.declared.words.Word.{Word}
use Rattle.rust_names.specs.declared.words.Word.TheVariants as word

-- the text of a word
abbrev pub word_text : Word → List ℕ
word_text word.Bool = codes "bool"
word_text word.Char = codes "char"
word_text word.Str = codes "str"
word_text word.Unit = codes "()"
word_text word.I8 = codes "i8"
word_text word.I16 = codes "i16"
word_text word.I32 = codes "i32"
word_text word.I64 = codes "i64"
word_text word.I128 = codes "i128"
word_text word.Isize = codes "isize"
word_text word.U8 = codes "u8"
word_text word.U16 = codes "u16"
word_text word.U32 = codes "u32"
word_text word.U64 = codes "u64"
word_text word.U128 = codes "u128"
word_text word.Usize = codes "usize"
word_text word.F32 = codes "f32"
word_text word.F64 = codes "f64"
word_text word.Never = codes "!"
word_text word.Placeholder = codes "_"
word_text word.Variadic = codes "..."
word_text word.Scope = codes "::"
word_text word.OpenSpace = codes "::{"
word_text word.Closure = codes "closure"
word_text word.Shim = codes "shim"
word_text word.CloseBrace = codes "}"
word_text word.OpenBrace = codes "{"
word_text word.Less = codes "<"
word_text word.Turbofish = codes "::<"
word_text word.Greater = codes ">"
word_text word.As = codes " as "
word_text word.CommaSpace = codes ", "
word_text word.Plus = codes " + "
word_text word.Equals = codes " = "
word_text word.Ampersand = codes "&"
word_text word.AmpersandMut = codes "&mut "
word_text word.Mut = codes "mut "
word_text word.PointerConst = codes "*const "
word_text word.PointerMut = codes "*mut "
word_text word.OpenBracket = codes "["
word_text word.Semicolon = codes "; "
word_text word.CloseBracket = codes "]"
word_text word.OpenParenthesis = codes "("
word_text word.CloseParenthesis = codes ")"
word_text word.Dyn = codes "dyn "
word_text word.Unsafe = codes "unsafe "
word_text word.ExternC = codes "extern \"C\" "
word_text word.Extern = codes "extern \""
word_text word.CloseExtern = codes "\" "
word_text word.Fn = codes "fn("
word_text word.Arrow = codes " -> "
word_text word.OpenFields = codes " { "
word_text word.CloseFields = codes " }"
word_text word.FieldColon = codes ": "

-- the word of a basic type
unfoldable pub basic_type : ℕ → Option Word
basic_type b =
    if b == 98 then Some word.Bool
    else if b == 99 then Some word.Char
    else if b == 101 then Some word.Str
    else if b == 117 then Some word.Unit
    else if b == 97 then Some word.I8
    else if b == 115 then Some word.I16
    else if b == 108 then Some word.I32
    else if b == 120 then Some word.I64
    else if b == 110 then Some word.I128
    else if b == 105 then Some word.Isize
    else if b == 104 then Some word.U8
    else if b == 116 then Some word.U16
    else if b == 109 then Some word.U32
    else if b == 121 then Some word.U64
    else if b == 111 then Some word.U128
    else if b == 106 then Some word.Usize
    else if b == 102 then Some word.F32
    else if b == 100 then Some word.F64
    else if b == 122 then Some word.Never
    else if b == 112 then Some word.Placeholder
    else if b == 118 then Some word.Variadic
    else None
