-- What is said of a module with a bounded memory, said of the bytes that spell it.
use Rattle.std.proofs.Common.{◌≡◌, ◌∙◌, ap, sym, subst, ℕ, List}
use Rattle.wa_syntax.specs.declared.module.Module.{Module}
use Rattle.wa_syntax.specs.Binary.{SpellsModule}
use Rattle.wa_syntax.specs.ValidModule.{IsValid}
use Rattle.wa_decode.proofs.OneModule.{one-module}
use Rattle.wa_run.specs.declared.answer.Answer.{Answer}
use Rattle.wa_run.specs.declared.answer.Answer.TheVariants as answer
use Rattle.wa_run.specs.declared.module_run.RunResult.{RunResult}
use Rattle.wa_run.specs.Modules.{SaysOfValid}
use Rattle.wa_run.specs.Runs.{HasRunModule, IsAnswered, Streams}
use Rattle.wa_run.specs.Within.{HasRunWithin, SaysOfWithin, within}

-- its run
pub run-within : (pages : ℕ) (bytes : List ℕ) (m n : Module) (fuel : ℕ) (run : RunResult) (before after : Streams) → SpellsModule bytes m → n ≡ within pages m → HasRunModule n fuel run before after → HasRunWithin pages bytes fuel run before after
run-within pages bytes m n fuel run before after spelled is passed = record {
  answers = passed.answers;
  gave = passed.gave;
  read = passed.read;
  delivered = passed.delivered;
  took = passed.took;
  holds = λ other too.
      let same : n ≡ within pages other = is ∙ ap (within pages) (sym (one-module bytes other m too spelled)) in
      subst (λ (x : Module). IsAnswered x passed.answers passed.delivered fuel run.answer run.steps) same passed.holds;
}

-- what an answer says
says-spelled : (pages : ℕ) (bytes : List ℕ) (m : Module) (given : Answer) → SpellsModule bytes m → IsValid (within pages m) → SaysOfValid (within pages m) given → SaysOfWithin pages bytes given
says-spelled pages bytes m answer.Malformed spelled valid says = absurd says
says-spelled pages bytes m (answer.Invalid func) spelled valid says = absurd says
says-spelled pages bytes m (answer.Unlinked import) spelled valid says = (m, spelled, valid, says)
says-spelled pages bytes m answer.Segment spelled valid says = (m, spelled, valid, says)
says-spelled pages bytes m (answer.Ended value) spelled valid says = (m, spelled, valid, says)
says-spelled pages bytes m (answer.Stopped code site) spelled valid says = (m, spelled, valid, says)
says-spelled pages bytes m (answer.Trap kind) spelled valid says = (m, spelled, valid, says)
says-spelled pages bytes m answer.TooDeep spelled valid says = (m, spelled, valid, says)
says-spelled pages bytes m answer.Spent spelled valid says = (m, spelled, valid, says)
says-spelled pages bytes m answer.InFault spelled valid says = (m, spelled, valid, says)
says-spelled pages bytes m answer.OutFault spelled valid says = (m, spelled, valid, says)
says-spelled pages bytes m answer.NoMemory spelled valid says = tt

pub says-within : (pages : ℕ) (bytes : List ℕ) (m n : Module) (given : Answer) → SpellsModule bytes m → n ≡ within pages m → IsValid n → SaysOfValid n given → SaysOfWithin pages bytes given
says-within pages bytes m n given spelled is valid says =
    says-spelled pages bytes m given spelled (subst IsValid is valid) (subst (λ (x : Module). SaysOfValid x given) is says)
