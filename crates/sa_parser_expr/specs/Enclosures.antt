-- What directly encloses an expression: by the relations of the grammar, and by its forms.
use Rattle.sa_parser_expr.specs.declared.grammar.Enclosure as code
use Rattle.sa_parser_expr.specs.declared.grammar.Enclosure.TheVariants.{Open, Items}

-- the enumeration, by a name that other crates may use
abbrev pub Enclosure : Type 0
Enclosure = code.Enclosure

-- outside of array literals, or where a `(` or `[` was opened in one, a `|` begins an array literal; in one it ends it
pub data Where : Type 0 where
  outside : Where
  in_array : Where

abbrev pub enclosure_of : Where → Enclosure
enclosure_of outside = Open
enclosure_of in_array = Items

abbrev pub where_of : Enclosure → Where
where_of Open = outside
where_of Items = in_array
