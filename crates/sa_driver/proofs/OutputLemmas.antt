-- What a sink took.
use Rattle.std.proofs.Common.{◌≡◌, ◌∙◌, ◌⊎◌, ◌&&◌, Bool, true, false, ℕ, min, List, ◌++◌, length, take, Option, None, Some, append-nil, refl, sym, subst, ap, arith, inl, inr}
use Rattle.std.specs.Prelude.{is_some}
use Rattle.std.proofs.Math.Seq.{take-length}
use Rattle.std.proofs.lemmas.List.{take-append-le, take_all}
use Rattle.std.proofs.lemmas.Bool.{cases_lt}
use Rattle.host_io.specs.Files.{Files, Writes, WritesFront}
use Rattle.host_io.specs.Output.{Grew, Took, TookFront}
use Rattle.host_io.proofs.Growth.{Grew-refl}
use Rattle.std.specs.Option.{option_map_or}
use Rattle.sa_cli.specs.Line.{Line, asked_detail, detail_of, detail_without_command, line_in}
use Rattle.sa_cli.specs.declared.command.Detail.{Detail}
use Rattle.sa_cli.specs.declared.command.Detail.TheVariants.{Brief, Explained}
use Rattle.sa_driver.specs.Answer.{has_steps}
use Rattle.sa_driver.specs.Report.{ReportsMore}
use Rattle.sa_driver.specs.HostParts.{IsUntouched, HostPart}
use Rattle.sa_driver.specs.declared.cause.Cause.TheVariants as cause
use Rattle.sa_driver.specs.declared.outcome.Outcome.{Outcome}

-- all of a piece is a prefix of it
pub TookFront-from_took : (old new : Option (List ℕ)) (bytes : List ℕ) → Took old new bytes → TookFront old new bytes
TookFront-from_took old new bytes took = (length bytes, subst (λ taken. Took old new taken) (sym (take-length bytes)) took)

take_min : (k : ℕ) (bytes : List ℕ) → take (min k (length bytes)) bytes ≡ take k bytes
take_min k bytes = elim (cases_lt k (length bytes)) [
  | inl less ↦
      let same : min k (length bytes) ≡ k = omega arith in
      ap (λ n. take n bytes) same
  | inr past ↦
      let same : min k (length bytes) ≡ length bytes = omega arith in
      ap (λ n. take n bytes) same ∙ take_all (length bytes) bytes (omega arith) ∙ sym (take_all k bytes past)
]

-- a prefix of a piece is one of a longer piece
pub TookFront-longer : (old new : Option (List ℕ)) (bytes more : List ℕ) → TookFront old new bytes → TookFront old new (bytes ++ more)
TookFront-longer old new bytes more (k, took) =
    let shorter : take (min k (length bytes)) (bytes ++ more) ≡ take k bytes =
    take-append-le (min k (length bytes)) bytes more (omega arith) ∙ take_min k bytes in
    (min k (length bytes), subst (λ taken. Took old new taken) (sym shorter) took)

-- the empty list is a prefix of any piece
pub TookFront-nothing : (output : Option (List ℕ)) (bytes : List ℕ) → TookFront output output bytes
TookFront-nothing None bytes = (0, refl)
TookFront-nothing (Some taken) bytes = (0, ap Some (sym (append-nil taken)))

-- all of a file's bytes are a prefix of them
pub WritesFront-from_writes : (old new : Option Files) (name bytes : List ℕ) → Writes old new name bytes → WritesFront old new name bytes
WritesFront-from_writes old new name bytes wrote = inr (length bytes, subst (λ taken. Writes old new name taken) (sym (take-length bytes)) wrote)

-- a sink that took nothing reports what each detail allows
untold : (asked : Detail) (err : HostPart (List ℕ)) → IsUntouched err → ReportsMore asked err
untold Brief err same = same
untold Explained err same = subst (λ after. Grew err.before after) (sym same.0) (Grew-refl err.before)

-- what arguments that form a command ask to have reported
pub detail_of_command : (words : List (List ℕ)) (line : Line) → line_in words ≡ Some line → asked_detail words ≡ detail_of line
detail_of_command words line is = ap (λ found. option_map_or detail_of found (detail_without_command words)) is

-- and what arguments ask that form none
pub detail_of_none : (words : List (List ℕ)) → line_in words ≡ None → asked_detail words ≡ detail_without_command words
detail_of_none words is = ap (λ found. option_map_or detail_of found (detail_without_command words)) is

-- what is reported with one detail is reported with that which is asked for, if it is the same, or the brief one
pub explained : (asked reported : Detail) (err : HostPart (List ℕ)) → (reported ≡ asked) ⊎ (reported ≡ Brief) → ReportsMore reported err → ReportsMore asked err
explained asked reported err (inl same) reports = subst (λ detail. ReportsMore detail err) same reports
explained asked reported err (inr brief) reports = untold asked err (subst (λ detail. ReportsMore detail err) brief reports)

-- no steps are shown where memory ran out
and-false : (b : Bool) → (b && false) ≡ false
and-false true = refl
and-false false = refl

pub no_steps : (asked : Bool) (outcome : Outcome) → outcome.steps ≡ None → outcome.cause ≡ cause.NoMemory → is_some outcome.steps ≡ (asked && has_steps outcome.cause)
no_steps asked outcome none memory = rw (none, memory) (sym (and-false asked))
