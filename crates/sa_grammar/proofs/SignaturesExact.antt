-- Formals and signatures are read exactly.
use Rattle.std.proofs.Common.{ℕ, ◌<◌, List, [], ◌++◌, length, arith}
use Rattle.sa_ast.specs.declared.class.FormalParam.{FormalParam}
use Rattle.sa_parser_expr.specs.declared.types.CallableKind.{CallableKind}
use Rattle.sa_parser_expr.specs.Lexemes.{Lexeme}
use Rattle.sa_parser_expr.specs.Grammar.{nested_to}
use Rattle.sa_parser.specs.Signatures.{IsFormals, IsSig}
use Rattle.sa_parser.specs.SignatureForms.{formals_form, sig_form}
use Rattle.sa_grammar.specs.Law.{OneListOfFormals, ListsOfFormalsAreRead, OneSig, SigsAreRead}
use Rattle.sa_grammar.proofs.Parts.{Signature}
use Rattle.sa_grammar.proofs.Sound.{IsSound}
use Rattle.sa_grammar.proofs.Complete.{Reads}
use Rattle.sa_grammar.proofs.FormsExact.{form_unique, form_exact}
use Rattle.sa_grammar.proofs.Signatures.{sound_formals, sound_sig, formals_read, sig_read}
use Rattle.sa_grammar.proofs.Nesting.{all_sound, all_complete}

formals_sound : (callable : CallableKind) (n : ℕ) → IsSound n (nested_to n) (IsFormals callable) (formals_form callable)
formals_sound callable n = sound_formals n (nested_to n) (all_sound n) callable

formals_reads : (callable : CallableKind) (n : ℕ) (ls : List Lexeme) (all : List FormalParam) → IsFormals callable ls all → length ls < n
    → Reads n (nested_to n) (formals_form callable) (ls ++ []) all []
formals_reads callable n ls all h small = formals_read n (nested_to n) (all_complete n) callable [] h small (record { brace = tt; colon = tt }) tt

sig_sound : (n : ℕ) → IsSound n (nested_to n) IsSig sig_form
sig_sound n = sound_sig n (nested_to n) (all_sound n)

sig_reads : (n : ℕ) (ls : List Lexeme) (one : Signature) → IsSig ls one → length ls < n → Reads n (nested_to n) sig_form (ls ++ []) one []
sig_reads n ls one h small = sig_read n (nested_to n) (all_complete n) [] h (omega arith) tt

pub one_list_of_formals : OneListOfFormals
one_list_of_formals callable = form_unique (IsFormals callable) (formals_form callable) (formals_sound callable) (formals_reads callable)

pub lists_of_formals_are_read : ListsOfFormalsAreRead
lists_of_formals_are_read callable = form_exact (IsFormals callable) (formals_form callable) (formals_sound callable) (formals_reads callable)

pub one_sig : OneSig
one_sig = form_unique IsSig sig_form sig_sound sig_reads

pub sigs_are_read : SigsAreRead
sigs_are_read = form_exact IsSig sig_form sig_sound sig_reads
