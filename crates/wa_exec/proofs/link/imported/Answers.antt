use Rattle.std.proofs.Common.{◌≡◌, ◌<◌, ◌≤◌, ◌++◌, [], ◌∷◌, ℕ, get_or, length, sym, subst, rules, Some, None, Option}
use Rattle.wa_syntax.specs.Hosts.{host_of}
use Rattle.wa_exec.specs.declared.link.ActivationCallee.{ActivationCallee}
use Rattle.wa_exec.specs.Links.{Names, function_of}
use Rattle.wa_exec.proofs.Linking.{callees-more, linked-more, unlinked-end, unlinked-first}
use Rattle.wa_exec.proofs.link.imported.Goals as goal

pub returns-in_default-clause-unlinked : goal.returns-in_default-clause-unlinked
returns-in_default-clause-unlinked c =
    let within : c.loop-at.at < length c.args.m.now.imports = search rules in
    let is : c.import-item.result ≡ get_or c.args.m.now.imports c.loop-at.at c.import-item.result = search rules in
    let none : host_of c.args.m.now c.import-item.result ≡ None = search rules in
    subst (λ (import : Option ℕ). Names import c.unlinked.result) (sym (unlinked-first c.args.m.now c.loop-at.at c.import-item.result within is c.loop-at.invariant.linked none)) c.unlinked.ensures

pub loop-at-preserved : goal.loop-at-preserved
loop-at-preserved c =
    let within : c.loop-at.at < length c.args.m.now.imports = search rules in
    let is : c.import-item.result ≡ get_or c.args.m.now.imports c.loop-at.at c.import-item.result = search rules in
    let found : Some (function_of c.in-Some.call) ≡ host_of c.args.m.now c.import-item.result = search rules in
    let add : c.push.new.self.items ≡ c.loop-at.callees.items ++ ActivationCallee.Host c.in-Some.call ∷ [] = search rules in
    record {
      callees = callees-more c.args.m.now c.loop-at.at c.import-item.result c.in-Some.call within is found c.loop-at.callees.items c.push.new.self.items c.loop-at.invariant.callees add;
      linked = linked-more c.args.m.now c.loop-at.at c.import-item.result c.in-Some.call within is found c.loop-at.invariant.linked;
    }

pub returns-clause-linked : goal.returns-clause-linked
returns-clause-linked c =
    let end : length c.args.m.now.imports ≤ c.loop-at.at = search rules in
    unlinked-end c.args.m.now c.loop-at.at end c.loop-at.invariant.linked
