use Rattle.std.proofs.Common.{None, ◌∙◌, arith}
use Rattle.wa_flatten.proofs.Places.{got-following, got-listed, got-past}
use Rattle.wa_flatten.proofs.table.TableInstance.get.Goals as goal

pub returns-in-Some : goal.returns-in-Some
returns-in-Some c =
    let found = c.in-Some.ensures.lookup.3 in
    got-listed _ _ _ c.self.inside.others _ _ _ c.self.view_is c.deref.ensures.value (omega (arith, c.self.invariant, c.self.inside.listed.ok.0)) found.0 (found.1 None)

pub returns-then-at-self : goal.returns-then-at-self
returns-then-at-self c = got-past _ _ c.deref.result.now c.self.inside.others _ _ c.self.view_is c.if-at-self.true

pub returns : goal.returns
returns c = got-following _ _ _ c.self.inside.others _ _ _ c.self.view_is c.deref.ensures.value c.in_default.ensures.lookup.3 c.if-at-self.false (c.copied.ensures ∙ c.get-2.ensures.value)
