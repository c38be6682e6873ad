use Rattle.std.proofs.Common.{◌≡◌, ◌≤◌, ◌<◌, ◌+◌, ◌*◌, take}
use Rattle.sa_lexer.specs.Number.{value_of}
use Rattle.sa_lexer.specs.declared.number.TheConstants.{MAX}
use Rattle.sa_lexer.proofs.number.value_of.Given as goal

abbrev pub invariant-loop-digit : goal.invariant-loop-digit
invariant-loop-digit l = record {
  small : l.value ≤ 16 * MAX + 36;
  exact : l.value ≤ MAX → l.value ≡ value_of l.base (take l.digit-index l.digits);
  above : MAX < l.value → MAX < value_of l.base (take l.digit-index l.digits);
}
