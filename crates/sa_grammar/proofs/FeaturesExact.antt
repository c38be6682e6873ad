-- Members are read exactly.
use Rattle.std.proofs.Common.{ℕ, ◌<◌, ◌≤◌, true, List, [], ◌++◌, length, arith}
use Rattle.sa_parser_expr.specs.Lexemes.{Lexeme}
use Rattle.sa_parser_expr.specs.Grammar.{nested_to}
use Rattle.sa_parser.specs.Features.{Enclosing, IsMember}
use Rattle.sa_parser.specs.Features as features
use Rattle.sa_parser.specs.Classes.{invariants_of}
use Rattle.sa_parser.specs.FeatureForms.{member_form}
use Rattle.sa_grammar.specs.Law.{OneMember, MembersAreRead}
use Rattle.sa_grammar.proofs.Parts.{Declaration}
use Rattle.sa_grammar.proofs.Sound.{IsSound}
use Rattle.sa_grammar.proofs.Complete.{Reads}
use Rattle.sa_grammar.proofs.FormsExact.{form_unique, form_exact}
use Rattle.sa_grammar.proofs.FeaturesSound.{sound_member}
use Rattle.sa_grammar.proofs.FeaturesComplete.{nothing, member_read}
use Rattle.sa_grammar.proofs.Nesting.{all_sound, all_complete}

one_at_most : {class : Enclosing} {ls : List Lexeme} {m : Declaration} → IsMember class ls m → length (invariants_of m) ≤ 1
one_at_most (features.called h k) = omega arith
one_at_most (features.declared h k) = omega arith
one_at_most (features.constants h k) = omega arith
one_at_most (features.include is one changes) = omega arith
one_at_most (features.private_include p is one changes) = omega arith
one_at_most (features.invariant e h) = omega arith

member_sound : (class : Enclosing) (n : ℕ) → IsSound n (nested_to n) (IsMember class) (member_form class true)
member_sound class n = sound_member n (nested_to n) (all_sound n) class

member_reads : (class : Enclosing) (n : ℕ) (ls : List Lexeme) (m : Declaration) → IsMember class ls m → length ls < n → Reads n (nested_to n) (member_form class true) (ls ++ []) m []
member_reads class n ls m h small = member_read n (nested_to n) (all_complete n) class true [] h (one_at_most h) (omega arith) nothing

pub one_member : OneMember
one_member class = form_unique (IsMember class) (member_form class true) (member_sound class) (member_reads class)

pub members_are_read : MembersAreRead
members_are_read class = form_exact (IsMember class) (member_form class true) (member_sound class) (member_reads class)
