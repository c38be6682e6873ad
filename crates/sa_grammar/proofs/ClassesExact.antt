-- Classes are read exactly, and files.
use Rattle.std.proofs.Common.{ℕ, ◌<◌, List, [], ◌++◌, length, arith}
use Rattle.sa_parser_expr.specs.Lexemes.{Lexeme}
use Rattle.sa_parser_expr.specs.Grammar.{nested_to}
use Rattle.sa_parser.specs.declared.file.FileKind.{FileKind}
use Rattle.sa_parser.specs.Classes.{Written, IsWholeClass, IsFile}
use Rattle.sa_parser.specs.ClassForms.{class_form, file_form}
use Rattle.sa_grammar.specs.Law.{OneClass, ClassesAreRead, OneFile, FilesAreRead}
use Rattle.sa_grammar.proofs.Sound.{IsSound}
use Rattle.sa_grammar.proofs.Complete.{Reads}
use Rattle.sa_grammar.proofs.FormsExact.{form_unique, form_exact}
use Rattle.sa_grammar.proofs.ClassesSound.{sound_class, sound_file}
use Rattle.sa_grammar.proofs.ClassesComplete.{class_read, file_read}
use Rattle.sa_grammar.proofs.Nesting.{all_sound, all_complete}

class_sound : (file_kind : FileKind) (n : ℕ) → IsSound n (nested_to n) (IsWholeClass file_kind) (class_form file_kind)
class_sound file_kind n = sound_class n (nested_to n) (all_sound n) file_kind

class_reads : (file_kind : FileKind) (n : ℕ) (ls : List Lexeme) (c : Written) → IsWholeClass file_kind ls c → length ls < n → Reads n (nested_to n) (class_form file_kind) (ls ++ []) c []
class_reads file_kind n ls c h small = class_read n (nested_to n) (all_complete n) file_kind [] h (omega arith)

file_sound : (file_kind : FileKind) (n : ℕ) → IsSound n (nested_to n) (IsFile file_kind) (file_form file_kind)
file_sound file_kind n = sound_file n (nested_to n) (all_sound n) file_kind

file_reads : (file_kind : FileKind) (n : ℕ) (ls : List Lexeme) (all : List Written) → IsFile file_kind ls all → length ls < n → Reads n (nested_to n) (file_form file_kind) (ls ++ []) all []
file_reads file_kind n ls all h small = file_read n (nested_to n) (all_complete n) file_kind h (omega arith)

pub one_class : OneClass
one_class file_kind = form_unique (IsWholeClass file_kind) (class_form file_kind) (class_sound file_kind) (class_reads file_kind)

pub classes_are_read : ClassesAreRead
classes_are_read file_kind = form_exact (IsWholeClass file_kind) (class_form file_kind) (class_sound file_kind) (class_reads file_kind)

pub one_file : OneFile
one_file file_kind = form_unique (IsFile file_kind) (file_form file_kind) (file_sound file_kind) (file_reads file_kind)

pub files_are_read : FilesAreRead
files_are_read file_kind = form_exact (IsFile file_kind) (file_form file_kind) (file_sound file_kind) (file_reads file_kind)
