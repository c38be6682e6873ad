-- The program's command line has a description for which `clap` gives matches and faults exactly.
use Rattle.std.proofs.Common.{◌≡◌, true, refl, subst, List}
use Rattle.clap.specs.Words.{App, HasMatchesOf, Text, is_simple, subcommand_of, subcommand_rows_of}
use Rattle.clap.specs.Faults.{fault_of, is_simple_and_free}
use Rattle.clap.specs.Kinds.{HasKind, IsAmong}
use Rattle.clap.specs.Values.{kind_of}
use Rattle.clap.specs.declared.error.Error.{Error}
use Rattle.clap.specs.declared.error.kind.ErrorKind.TheVariants.{OutOfMemory}
use Rattle.clap.specs.declared.parser.matches.ArgMatches.{ArgMatches}
use Rattle.std.proofs.Common.{◌≢◌, [], inl, inr}
use Rattle.clap.proofs.OnLiterals.{clap_on_literals}
use Rattle.sa_cli.specs.Program.{program}

program_simple : is_simple program ≡ true
unfolding clap_on_literals
program_simple = refl

program_free : is_simple_and_free program ≡ true
unfolding clap_on_literals
program_free = refl

-- a parse by this description that succeeds has no fault
pub faultless : (app : App) (words : List Text) → app ≡ program → (is_simple_and_free app ≡ true → fault_of app words ≡ []) → fault_of program words ≡ []
faultless app words same free = subst (λ a. is_simple_and_free a ≡ true → fault_of a words ≡ []) same free program_free

-- a parse that fails for another reason than memory has a fault
pub faulty : (app : App) (words : List Text) (error : Error) → app ≡ program → (is_simple_and_free app ≡ true → HasKind (fault_of app words) error) → kind_of error ≢ OutOfMemory → fault_of program words ≢ []
faulty app words error same by_kind other empty =
    elim (subst (λ a. is_simple_and_free a ≡ true → HasKind (fault_of a words) error) same by_kind program_free) [
      | inl memory ↦ absurd (other memory)
      | inr among ↦ subst (IsAmong (kind_of error)) empty among
    ]

-- a parse gives the subcommand of the description
pub names : (app : App) (words : List Text) (m : ArgMatches) → app ≡ program → HasMatchesOf app words m → subcommand_rows_of m ≡ subcommand_of program words
names app words m same matches = (subst (λ a. HasMatchesOf a words m) same matches program_simple).1
