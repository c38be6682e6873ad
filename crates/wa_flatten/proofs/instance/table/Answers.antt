use Rattle.std.proofs.Common.{◌≡◌, ◌+◌, ◌≤◌, ◌∙◌, sym, ap, length, subst, rules}
use Rattle.std.specs.Prelude.{All}
use Rattle.std.proofs.lemmas.List.{take_all}
use Rattle.wa_syntax.specs.declared.module.ElemSegment.{ElemSegment}
use Rattle.wa_syntax.specs.Runs.{offset_of, table_size}
use Rattle.wa_flatten.proofs.Filled.{filled, put_elem, room-at, table-next}
use Rattle.wa_flatten.proofs.instance.table.Goals as goal

pub put_all-requires : goal.put_all-requires
put_all-requires c =
    let m = c.args.m.now in
    let elems = c.as_slice-elems.result.now in
    let all = subst (All (λ (elem : ElemSegment). offset_of m elem.offset + length elem.funcs ≤ table_size m)) (sym c.as_slice-elems.ensures) c.requires.elems in
    let fits : offset_of m c.elem-item.result.offset + length c.elem-item.result.funcs ≤ length c.loop-elem.table = room-at (λ (elem : ElemSegment). offset_of m elem.offset + length elem.funcs) (table_size m) elems c.loop-elem.elem-index c.elem-item.result (length c.loop-elem.table) c.loop-elem-test.true c.elem-item.is c.loop-elem.invariant.size all in
    search rules

pub loop-elem-preserved : goal.loop-elem-preserved
loop-elem-preserved c =
    let step : c.put_all.new.table ≡ put_elem c.args.m.now c.loop-elem.table c.elem-item.result = search rules in
    record {
      size = c.put_all.ensures.size ∙ c.loop-elem.invariant.size;
      contents = table-next c.args.m.now c.as_slice-elems.result.now c.loop-elem.elem-index c.elem-item.result c.loop-elem.table c.put_all.new.table c.loop-elem-test.true c.elem-item.is c.loop-elem.invariant.contents step;
    }

pub returns : goal.returns
returns c =
    c.loop-elem.invariant.contents ∙ ap (filled c.args.m.now) (take_all c.loop-elem.elem-index c.as_slice-elems.result.now c.loop-elem-test.false ∙ c.as_slice-elems.ensures)
