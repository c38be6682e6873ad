use Rattle.std.proofs.Common.{arith, refl, subst, sym}
use Rattle.wa_text.specs.Forms.{nothing}
use Rattle.wa_text.specs.Listing.{module_lines}
use Rattle.wa_text.specs.Places.{NoneBegins}
use Rattle.wa_text.specs.Reading.{RefusesAt}
use Rattle.wa_text.proofs.Lines.{listed}
use Rattle.wa_text.proofs.FirstLines.{none_begins_so, none_ends_so}
use Rattle.wa_text.proofs.OneModule.{one-module}
use Rattle.wa_text.proofs.reader.module.read.Goals as goal

pub returns-in-Ok-clause-found : goal.returns-in-Ok-clause-found
returns-in-Ok-clause-found c = listed c.args.text.now _ _ (omega arith) c.in-Ok.ensures.found

pub returns-in-Ok-clause-only : goal.returns-in-Ok-clause-only
returns-in-Ok-clause-only c = one-module c.args.text.now

pub returns-in-Ok-2-clause-only : goal.returns-in-Ok-2-clause-only
returns-in-Ok-2-clause-only c = one-module c.args.text.now

pub returns-in-Err-Wrong-clause-only : goal.returns-in-Err-Wrong-clause-only
returns-in-Err-Wrong-clause-only c = one-module c.args.text.now

pub returns-in-Err-NoMemory-clause-only : goal.returns-in-Err-NoMemory-clause-only
returns-in-Err-NoMemory-clause-only c = one-module c.args.text.now

pub returns-in-Ok-clause-complete : goal.returns-in-Ok-clause-complete
returns-in-Ok-clause-complete c = λ m h. one-module c.args.text.now _ m (listed c.args.text.now _ _ (omega arith) c.in-Ok.ensures.found) h

-- the text itself isn't a listing
pub returns-in-Ok-2-clause-complete : goal.returns-in-Ok-2-clause-complete
returns-in-Ok-2-clause-complete c = λ m h.
    absurd (none_ends_so c.args.text.now c.args.text.now c.in-Ok-2.end _ _ m c.in-Ok-2.ensures.reaches.1 (omega arith) c.in-Ok-2.ensures.found c.in-Ok-2.ensures.whole refl h refl)

pub returns-in-Ok-2-clause-clear : goal.returns-in-Ok-2-clause-clear
returns-in-Ok-2-clause-clear c =
    subst (NoneBegins c.args.text.now) (sym c.not_listing.ensures.number)
    (λ m other h. none_ends_so c.args.text.now other c.in-Ok.end _ _ m c.in-Ok.ensures.reaches.1 (omega arith) c.in-Ok.ensures.found c.in-Ok.ensures.whole refl h)

pub returns-in-Err-Wrong-clause-complete : goal.returns-in-Err-Wrong-clause-complete
returns-in-Err-Wrong-clause-complete c = λ m h.
    let refused = subst (RefusesAt module_lines nothing c.args.text.now 0) c.in-Err-Wrong.field-0-is c.in-Err-Wrong.ensures.refused in
    absurd (none_begins_so c.args.text.now c.args.text.now c.in-Err-Wrong.at _ m refused refl h refl)

pub returns-in-Err-Wrong-clause-clear : goal.returns-in-Err-Wrong-clause-clear
returns-in-Err-Wrong-clause-clear c =
    let refused = subst (RefusesAt module_lines nothing c.args.text.now 0) c.in-Err-Wrong.field-0-is c.in-Err-Wrong.ensures.refused in
    subst (NoneBegins c.args.text.now) (sym c.not_listing-in-Err-Wrong.ensures.number) (λ m other h. none_begins_so c.args.text.now other c.in-Err-Wrong.at _ m refused refl h)

pub returns-in-Err-NoMemory-clause-complete : goal.returns-in-Err-NoMemory-clause-complete
returns-in-Err-NoMemory-clause-complete c = λ m h. refl
