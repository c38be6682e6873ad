use Rattle.std.proofs.Common.{◌≡◌, ◌≢◌, [], ◌∷◌, refl, ◌∙◌, sym, true}
use Rattle.std.proofs.lemmas.Bool.Decides.{Decides-eqb}
use Rattle.std.proofs.lemmas.Slice.Eq.{slice_eq-Decides}
use Rattle.std.specs.Prelude.{codes, decimal}
use Rattle.wa_syntax.specs.declared.instr.Instr.{out-Instr}
use Rattle.wa_syntax.specs.declared.instr.Instr.TheOpen.{Instr-F}
use Rattle.wa_syntax.specs.declared.instr.Instr.TheVariants as variant
use Rattle.wa_text.proofs.Lines.{indexed_line, single}
use Rattle.wa_text.proofs.NoInstruction.{by_index, no_index, simple}
use Rattle.wa_text.proofs.reader.instruction.indexed.Goals as goal

pub returns-then-eq : goal.returns-then-eq
returns-then-eq c = λ words h levels.
    let first = c.args.first.now in
    let is : first ≡ codes "br" = (slice_eq-Decides Decides-eqb first c.as_slice.result.now c.eq.result c.eq.ensures).0 c.if-eq.true ∙ c.as_slice.ensures in
    single _ (Instr-F.Br c.args.index) ((first ∷ words) ∷ []) (variant.rolls-Br c.args.index) (λ Body. indexed_line first (codes "br") c.args.index words is h) levels

pub returns-then-eq-2 : goal.returns-then-eq-2
returns-then-eq-2 c = λ words h levels.
    let first = c.args.first.now in
    let is : first ≡ codes "br_if" = (slice_eq-Decides Decides-eqb first c.as_slice-2.result.now c.eq-2.result c.eq-2.ensures).0 c.if-eq-2.true ∙ c.as_slice-2.ensures in
    single _ (Instr-F.BrIf c.args.index) ((first ∷ words) ∷ []) (variant.rolls-BrIf c.args.index) (λ Body. indexed_line first (codes "br_if") c.args.index words is h) levels

pub returns-then-eq-3 : goal.returns-then-eq-3
returns-then-eq-3 c = λ words h levels.
    let first = c.args.first.now in
    let is : first ≡ codes "call" = (slice_eq-Decides Decides-eqb first c.as_slice-3.result.now c.eq-3.result c.eq-3.ensures).0 c.if-eq-3.true ∙ c.as_slice-3.ensures in
    single _ (Instr-F.Call c.args.index) ((first ∷ words) ∷ []) (variant.rolls-Call c.args.index) (λ Body. indexed_line first (codes "call") c.args.index words is h) levels

pub returns-then-eq-4 : goal.returns-then-eq-4
returns-then-eq-4 c = λ words h levels.
    let first = c.args.first.now in
    let is : first ≡ codes "call_indirect" = (slice_eq-Decides Decides-eqb first c.as_slice-4.result.now c.eq-4.result c.eq-4.ensures).0 c.if-eq-4.true ∙ c.as_slice-4.ensures in
    single _ (Instr-F.CallIndirect c.args.index) ((first ∷ words) ∷ []) (variant.rolls-CallIndirect c.args.index) (λ Body. indexed_line first (codes "call_indirect") c.args.index words is h) levels

pub returns-then-eq-5 : goal.returns-then-eq-5
returns-then-eq-5 c = λ words h levels.
    let first = c.args.first.now in
    let is : first ≡ codes "local.get" = (slice_eq-Decides Decides-eqb first c.as_slice-5.result.now c.eq-5.result c.eq-5.ensures).0 c.if-eq-5.true ∙ c.as_slice-5.ensures in
    single _ (Instr-F.LocalGet c.args.index) ((first ∷ words) ∷ []) (variant.rolls-LocalGet c.args.index) (λ Body. indexed_line first (codes "local.get") c.args.index words is h) levels

pub returns-then-eq-6 : goal.returns-then-eq-6
returns-then-eq-6 c = λ words h levels.
    let first = c.args.first.now in
    let is : first ≡ codes "local.set" = (slice_eq-Decides Decides-eqb first c.as_slice-6.result.now c.eq-6.result c.eq-6.ensures).0 c.if-eq-6.true ∙ c.as_slice-6.ensures in
    single _ (Instr-F.LocalSet c.args.index) ((first ∷ words) ∷ []) (variant.rolls-LocalSet c.args.index) (λ Body. indexed_line first (codes "local.set") c.args.index words is h) levels

pub returns-then-eq-7 : goal.returns-then-eq-7
returns-then-eq-7 c = λ words h levels.
    let first = c.args.first.now in
    let is : first ≡ codes "local.tee" = (slice_eq-Decides Decides-eqb first c.as_slice-7.result.now c.eq-7.result c.eq-7.ensures).0 c.if-eq-7.true ∙ c.as_slice-7.ensures in
    single _ (Instr-F.LocalTee c.args.index) ((first ∷ words) ∷ []) (variant.rolls-LocalTee c.args.index) (λ Body. indexed_line first (codes "local.tee") c.args.index words is h) levels

pub returns-then-eq-8 : goal.returns-then-eq-8
returns-then-eq-8 c = λ words h levels.
    let first = c.args.first.now in
    let is : first ≡ codes "global.get" = (slice_eq-Decides Decides-eqb first c.as_slice-8.result.now c.eq-8.result c.eq-8.ensures).0 c.if-eq-8.true ∙ c.as_slice-8.ensures in
    single _ (Instr-F.GlobalGet c.args.index) ((first ∷ words) ∷ []) (variant.rolls-GlobalGet c.args.index) (λ Body. indexed_line first (codes "global.get") c.args.index words is h) levels

pub returns-then-eq-9 : goal.returns-then-eq-9
returns-then-eq-9 c = λ words h levels.
    let first = c.args.first.now in
    let is : first ≡ codes "global.set" = (slice_eq-Decides Decides-eqb first c.as_slice-9.result.now c.eq-9.result c.eq-9.ensures).0 c.if-eq-9.true ∙ c.as_slice-9.ensures in
    single _ (Instr-F.GlobalSet c.args.index) ((first ∷ words) ∷ []) (variant.rolls-GlobalSet c.args.index) (λ Body. indexed_line first (codes "global.set") c.args.index words is h) levels

pub returns-then-eq-10 : goal.returns-then-eq-10
returns-then-eq-10 c = λ words h levels.
    let first = c.args.first.now in
    let is : first ≡ codes "i32.const" = (slice_eq-Decides Decides-eqb first c.as_slice-10.result.now c.eq-10.result c.eq-10.ensures).0 c.if-eq-10.true ∙ c.as_slice-10.ensures in
    single _ (Instr-F.I32Const c.args.index) ((first ∷ words) ∷ []) (variant.rolls-I32Const c.args.index) (λ Body. indexed_line first (codes "i32.const") c.args.index words is h) levels

pub returns : goal.returns
returns c = λ i h.
    let first = c.args.first.now in
    let index = c.args.index in
    let words = by_index i first index (c.ranges.index.fits, refl) h in
    let not_Br : first ≢ codes "br" = λ same. let equal : c.eq.result ≡ true = (slice_eq-Decides Decides-eqb first c.as_slice.result.now c.eq.result c.eq.ensures).1 (same ∙ sym c.as_slice.ensures) in let other = c.if-eq.false in let no : ⊥ = cc in no in
    let not_BrIf : first ≢ codes "br_if" = λ same. let equal : c.eq-2.result ≡ true = (slice_eq-Decides Decides-eqb first c.as_slice-2.result.now c.eq-2.result c.eq-2.ensures).1 (same ∙ sym c.as_slice-2.ensures) in let other = c.if-eq-2.false in let no : ⊥ = cc in no in
    let not_Call : first ≢ codes "call" = λ same. let equal : c.eq-3.result ≡ true = (slice_eq-Decides Decides-eqb first c.as_slice-3.result.now c.eq-3.result c.eq-3.ensures).1 (same ∙ sym c.as_slice-3.ensures) in let other = c.if-eq-3.false in let no : ⊥ = cc in no in
    let not_CallIndirect : first ≢ codes "call_indirect" = λ same. let equal : c.eq-4.result ≡ true = (slice_eq-Decides Decides-eqb first c.as_slice-4.result.now c.eq-4.result c.eq-4.ensures).1 (same ∙ sym c.as_slice-4.ensures) in let other = c.if-eq-4.false in let no : ⊥ = cc in no in
    let not_LocalGet : first ≢ codes "local.get" = λ same. let equal : c.eq-5.result ≡ true = (slice_eq-Decides Decides-eqb first c.as_slice-5.result.now c.eq-5.result c.eq-5.ensures).1 (same ∙ sym c.as_slice-5.ensures) in let other = c.if-eq-5.false in let no : ⊥ = cc in no in
    let not_LocalSet : first ≢ codes "local.set" = λ same. let equal : c.eq-6.result ≡ true = (slice_eq-Decides Decides-eqb first c.as_slice-6.result.now c.eq-6.result c.eq-6.ensures).1 (same ∙ sym c.as_slice-6.ensures) in let other = c.if-eq-6.false in let no : ⊥ = cc in no in
    let not_LocalTee : first ≢ codes "local.tee" = λ same. let equal : c.eq-7.result ≡ true = (slice_eq-Decides Decides-eqb first c.as_slice-7.result.now c.eq-7.result c.eq-7.ensures).1 (same ∙ sym c.as_slice-7.ensures) in let other = c.if-eq-7.false in let no : ⊥ = cc in no in
    let not_GlobalGet : first ≢ codes "global.get" = λ same. let equal : c.eq-8.result ≡ true = (slice_eq-Decides Decides-eqb first c.as_slice-8.result.now c.eq-8.result c.eq-8.ensures).1 (same ∙ sym c.as_slice-8.ensures) in let other = c.if-eq-8.false in let no : ⊥ = cc in no in
    let not_GlobalSet : first ≢ codes "global.set" = λ same. let equal : c.eq-9.result ≡ true = (slice_eq-Decides Decides-eqb first c.as_slice-9.result.now c.eq-9.result c.eq-9.ensures).1 (same ∙ sym c.as_slice-9.ensures) in let other = c.if-eq-9.false in let no : ⊥ = cc in no in
    let not_I32Const : first ≢ codes "i32.const" = λ same. let equal : c.eq-10.result ≡ true = (slice_eq-Decides Decides-eqb first c.as_slice-10.result.now c.eq-10.result c.eq-10.ensures).1 (same ∙ sym c.as_slice-10.ensures) in let other = c.if-eq-10.false in let no : ⊥ = cc in no in
    no_index (out-Instr i) first (decimal index) c.requires.table c.requires.constant not_Br not_BrIf not_Call not_CallIndirect not_LocalGet not_LocalSet not_LocalTee not_GlobalGet not_GlobalSet not_I32Const (simple i first (decimal index ∷ []) words)
