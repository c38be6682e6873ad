use Rattle.std.proofs.Common.{Some, arith, length, set, sym, ap, ◌∙◌}
use Rattle.std.proofs.lemmas.List.{length-set, with_items_is}
use Rattle.wa_flatten.proofs.Places.{put-in_list, put-in_others}
use Rattle.wa_flatten.proofs.table.TableInstance.put.Goals as goal

pub returns-then-place-len-clause-put : goal.returns-then-place-len-clause-put
returns-then-place-len-clause-put c =
    let listed = c.self.inside.listed in
    let written = set c.as_mut_slice.result.now c.args.at (Some c.args.func) in
    let long = length-set c.as_mut_slice.result.now c.args.at (Some c.args.func) ∙ ap length c.as_mut_slice.ensures.value ∙ sym listed.ok.0 in
    put-in_list _ _ _ c.self.inside.others _ _ _ _ c.self.view_is c.as_mut_slice.ensures.value (omega (arith, c.self.invariant, listed.ok.0)) (omega (arith, c.if-place-len.true, c.len.ensures, listed.ok.0)) (with_items_is listed written long)

pub returns-clause-put : goal.returns-clause-put
returns-clause-put c =
    let updates = c.in_ok-insert.ensures.updates in
    put-in_others _ _ c.self.inside.listed.items c.self.inside.others _ _ c.insert.new.self _ c.self.view_is (omega (arith, c.if-place-len.false, c.len.ensures, c.self.inside.listed.ok.0)) c.requires updates.1 updates.2
