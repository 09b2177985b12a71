-- The records of a symbol file (Breakpad's symbol_files.md): each has a keyword and fields.
use Rattle.std.specs.Prelude.{ℕ, List, [], codes}
use Rattle.sym_records.specs.Fields.{Shape, Name, Rules, Ranges, Last, Then, Word, Hex, Marked, Decimal, Values}
use Rattle.sym_records.specs.Places.{Role, First, Own, Owner, Owned, Frames, Changes}
use Rattle.sym_records.specs.declared.line.SymLine.{SymLine}
use Rattle.sym_records.specs.declared.line.SymLine.TheVariants as line
use Rattle.sym_records.specs.declared.keyword.Keyword.{Keyword}
use Rattle.sym_records.specs.declared.keyword.Keyword.TheVariants as key

-- the properties of a keyword: its words, with one space before each; the kinds of its fields; the
-- role of its records; and how a record is made from the values of its fields
pub record Row : Type 0 where
  pub words : List ℕ
  pub layout : Shape
  pub role : Role
  pub made : Values layout → SymLine

-- the table of keywords; a line record has no words
abbrev pub row : Keyword → Row
row key.Module = record {
  words = codes " MODULE";
  layout = Then Word (Then Word (Then Word Name));
  role = First;
  made = λ v. line.Module (record { os = v.0; arch = v.1.0; id = v.1.1.0; name = v.1.1.1 });
}
row key.Info = record {
  words = codes " INFO";
  layout = Name;
  role = Own;
  made = λ v. line.Info v;
}
row key.File = record {
  words = codes " FILE";
  layout = Then Decimal Name;
  role = Own;
  made = λ v. line.File v.0 v.1;
}
row key.Origin = record {
  words = codes " INLINE_ORIGIN";
  layout = Then Decimal Name;
  role = Own;
  made = λ v. line.Origin v.0 v.1;
}
row key.Func = record {
  words = codes " FUNC";
  layout = Then Marked (Then Hex (Then Hex Name));
  role = Owner;
  made = λ v. line.Func v.0.0 v.0.1 v.1.0 v.1.1.0 v.1.1.1;
}
row key.Inline = record {
  words = codes " INLINE";
  layout = Then Decimal (Then Decimal (Then Decimal (Then Decimal Ranges)));
  role = Owned;
  made = λ v. line.Inline v.0 v.1.0 v.1.1.0 v.1.1.1.0 v.1.1.1.1;
}
row key.Line = record {
  words = [];
  layout = Then Hex (Then Hex (Then Decimal Last));
  role = Owned;
  made = λ v. line.Line v.0 v.1.0 v.1.1.0 v.1.1.1;
}
row key.Public = record {
  words = codes " PUBLIC";
  layout = Then Marked (Then Hex Name);
  role = Own;
  made = λ v. line.Public v.0.0 v.0.1 v.1.0 v.1.1;
}
row key.Init = record {
  words = codes " STACK CFI INIT";
  layout = Then Hex (Then Hex Rules);
  role = Frames;
  made = λ v. line.Init v.0 v.1.0 v.1.1;
}
row key.Change = record {
  words = codes " STACK CFI";
  layout = Then Hex Rules;
  role = Changes;
  made = λ v. line.Change v.0 v.1;
}

-- the words of a keyword
abbrev pub headed : Keyword → List ℕ
headed k = (row k).words

-- the kinds of the fields after a keyword
abbrev pub layout : Keyword → Shape
layout k = (row k).layout

-- the role of the records with a keyword
abbrev pub role : Keyword → Role
role k = (row k).role

-- the record with a keyword and fields
abbrev pub made : (k : Keyword) → Values (layout k) → SymLine
made k v = (row k).made v

-- the parts of a record: its keyword, and the fields after it
pub data Parts : Type 0 where
  after : (k : Keyword) → Values (layout k) → Parts

abbrev pub parts : SymLine → Parts
parts (line.Module binary) = after key.Module (binary.os, (binary.arch, (binary.id, binary.name)))
parts (line.Info text) = after key.Info text
parts (line.File number name) = after key.File (number, name)
parts (line.Origin number name) = after key.Origin (number, name)
parts (line.Func many address size params name) = after key.Func ((many, address), (size, (params, name)))
parts (line.Inline level call_line call_file origin ranges) = after key.Inline (level, (call_line, (call_file, (origin, ranges))))
parts (line.Line address size number file) = after key.Line (address, (size, (number, file)))
parts (line.Public many address params name) = after key.Public ((many, address), (params, name))
parts (line.Init address size rules) = after key.Init (address, (size, rules))
parts (line.Change address rules) = after key.Change (address, rules)

abbrev pub keyword_in : Parts → Keyword
keyword_in (after k v) = k

abbrev pub values_in : (p : Parts) → Values (layout (keyword_in p))
values_in (after k v) = v

-- the keyword of a record
abbrev pub keyword : SymLine → Keyword
keyword s = keyword_in (parts s)

-- the fields of a record
abbrev pub values : (s : SymLine) → Values (layout (keyword s))
values s = values_in (parts s)
