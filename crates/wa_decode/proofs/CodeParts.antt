-- The readers of locals and codes.
use Rattle.std.proofs.Common.{◌≡◌, ℕ, zero, suc, ◌+◌, ◌<◌, ◌≤◌, List, [], ◌∷◌, ◌++◌, length, map, take, get_or, slice_get, slice_range, Some, replicate, refl, sym, ap, subst, ◌∙◌, arith, append_assoc}
use Rattle.std.proofs.lemmas.List.{append-nil, length-append, length-map, take_more}
use Rattle.std.proofs.Math.Seq.{take-length}
use Rattle.std.specs.Prelude.{Ok, Err}
use Rattle.wa_syntax.specs.declared.instr.Instr.{Instr}
use Rattle.wa_syntax.specs.declared.locals.LocalRun.{LocalRun}
use Rattle.wa_syntax.specs.declared.module.Func.{Func}
use Rattle.wa_syntax.specs.declared.module.ValTy.{ValTy}
use Rattle.wa_syntax.specs.Binary.{run, locals, code}
use Rattle.wa_syntax.specs.BinaryInstructions.{valtype, expr}
use Rattle.wa_syntax.specs.Formats.{each, vec, sized, u32}
use Rattle.wa_syntax.specs.Locals.{types_of_runs}
use Rattle.wa_decode.specs.declared.fault.DecodeFault.{DecodeFault}
use Rattle.wa_decode.specs.declared.fault.DecodeFault.TheVariants.{NoMemory, Malformed}
use Rattle.wa_decode.specs.Codes.{runs_of, code_of, codes_of}
use Rattle.wa_decode.specs.Reading.{Spelled, Reads}
use Rattle.wa_decode.proofs.Places.{join, split, none_here, none_only, get_or-slice_get}
use Rattle.wa_decode.proofs.Reading.{pair, as-ok, as-err, none_read, after_read}
use Rattle.wa_decode.proofs.Vectors.{Behind, Row, row-none, row-more, vec-ok, vec-err, each-more}

-- ---- runs of locals

pub run-ok : {bytes : List ℕ} {at end : ℕ} (count : ℕ) (ty : ValTy) → Reads (pair u32 valtype) bytes at (Ok ((count, ty), end)) → Reads run bytes at (Ok (record { count = count; ty = ty }, end))
run-ok count ty = as-ok (λ (p : ℕ × ValTy). record { count = p.0; ty = p.1 }) (λ (r : LocalRun). (r.count, r.ty)) (λ r. refl) (λ r s h. h) (λ h. h)

pub run-err : {bytes : List ℕ} {at : ℕ} {e : DecodeFault} → Reads (pair u32 valtype) bytes at (Err e) → Reads run bytes at (Err e)
run-err = as-err (λ (r : LocalRun). (r.count, r.ty)) (λ r s h. h)

types_of_runs-more : (runs : List LocalRun) (r : LocalRun) → types_of_runs (runs ++ r ∷ []) ≡ types_of_runs runs ++ replicate r.count r.ty
types_of_runs-more [] r = append-nil (replicate r.count r.ty)
types_of_runs-more (q ∷ runs) r =
    ap (λ (rest : List ValTy). replicate q.count q.ty ++ rest) (types_of_runs-more runs r)
    ∙ sym (append_assoc (replicate q.count q.ty) (types_of_runs runs) (replicate r.count r.ty))

-- of so many runs, the first were read, up to a position, and denote these types
pub record RunsRow (bytes : List ℕ) (start count : ℕ) (types : List ValTy) (read at : ℕ) : Type 0 where
  pub runs : List LocalRun
  pub long : length runs ≡ read
  pub denoted : types_of_runs runs ≡ types
  pub row : Row run bytes start count runs at

pub runs-none : (bytes : List ℕ) (start count : ℕ) → start ≤ length bytes → RunsRow bytes start count [] 0 start
runs-none bytes start count within = record { runs = []; long = refl; denoted = refl; row = row-none run bytes start count within }

pub runs-more : {bytes : List ℕ} {start count : ℕ} {types : List ValTy} {read at next : ℕ} {r : LocalRun} → read < count → RunsRow bytes start count types read at → Reads run bytes at (Ok (r, next)) → RunsRow bytes start count (types ++ replicate r.count r.ty) (read + 1) next
runs-more {r = r} few row h = record {
  runs = row.runs ++ r ∷ [];
  long = omega (arith, length-append row.runs (r ∷ []), row.long);
  denoted = types_of_runs-more row.runs r ∙ ap (λ (front : List ValTy). front ++ replicate r.count r.ty) row.denoted;
  row = row-more (omega (arith, row.long)) row.row h;
}

runs-as : (types : List ValTy) (runs : List LocalRun) (s : List ℕ) → types_of_runs runs ≡ types → vec run runs s → runs_of types s
runs-as types runs s denoted h = (runs, denoted, h)

pub runs-ok : {bytes : List ℕ} {from start count read at : ℕ} {types : List ValTy} → Reads u32 bytes from (Ok (count, start)) → read ≡ count → RunsRow bytes start count types read at → Reads runs_of bytes from (Ok (types, at))
runs-ok {bytes = bytes} {from = from} {at = at} {types = types} h done row =
    let whole : Reads (vec run) bytes from (Ok (row.runs, at)) = vec-ok h (row.long ∙ done) row.row in
    record {
      found = record { forward = whole.found.forward; within = whole.found.within; spelling = runs-as types row.runs (slice_range bytes from at) row.denoted whole.found.spelling };
      complete = λ w to s.
          let runs : List LocalRun = s.spelling.0 in
          let denoted : types_of_runs runs ≡ w = s.spelling.1 in
          let same = whole.complete runs to (record { forward = s.forward; within = s.within; spelling = s.spelling.2 }) in
          (sym row.denoted ∙ ap types_of_runs same.0 ∙ denoted, same.1);
    }

runs-unread : {bytes : List ℕ} {from : ℕ} {e : DecodeFault} → Reads (vec run) bytes from (Err e) → Reads runs_of bytes from (Err e)
runs-unread h = record {
  found = tt;
  complete = λ w to s. h.complete s.spelling.0 to (record { forward = s.forward; within = s.within; spelling = s.spelling.2 });
}

pub runs-err : {bytes : List ℕ} {from start count read at : ℕ} {types : List ValTy} {e : DecodeFault} → Reads u32 bytes from (Ok (count, start)) → read < count → RunsRow bytes start count types read at → Reads run bytes at (Err e) → Reads runs_of bytes from (Err e)
runs-err h few row k = runs-unread (vec-err h (omega (arith, row.long)) row.row k)

pub runs-uncounted : {bytes : List ℕ} {from : ℕ} {e : DecodeFault} → Reads u32 bytes from (Err e) → Reads runs_of bytes from (Err e)
runs-uncounted h = record { found = tt; complete = λ w to s. none_read h (split {A = u32 (length s.spelling.0)} {B = each run s.spelling.0} (record { forward = s.forward; within = s.within; spelling = s.spelling.2 })).first }

-- ---- locals, which are not too many

pub locals-ok : {bytes : List ℕ} {at end : ℕ} (types : List ValTy) → length types ≤ 1000000 → Reads runs_of bytes at (Ok (types, end)) → Reads locals bytes at (Ok (types, end))
locals-ok types few = as-ok {P = runs_of} (λ (t : List ValTy). t) (λ (t : List ValTy). t) (λ t. refl) (λ t s h. (h.1, h.2, h.3)) (λ h. (few, h.0, h.1, h.2))

pub locals-err : {bytes : List ℕ} {at : ℕ} {e : DecodeFault} → Reads runs_of bytes at (Err e) → Reads locals bytes at (Err e)
locals-err = as-err {P = runs_of} (λ (t : List ValTy). t) (λ t s h. (h.1, h.2, h.3))

pub locals-many : {bytes : List ℕ} {at end : ℕ} (types : List ValTy) → 1000000 < length types → Reads runs_of bytes at (Ok (types, end)) → Reads locals bytes at (Err Malformed)
locals-many types many h = record {
  found = tt;
  complete = λ w to s.
      let same = h.complete w to (record { forward = s.forward; within = s.within; spelling = (s.spelling.1, s.spelling.2, s.spelling.3) }) in
      absurd (omega (arith, ap length same.0, many, s.spelling.0));
}

-- ---- the code of a function

pub code-ok : {bytes : List ℕ} {at end : ℕ} (ty : ℕ) (types : List ValTy) (body : List Instr) → Reads (λ (p : List ValTy × List Instr). sized (pair locals expr p)) bytes at (Ok ((types, body), end)) → Reads (code_of ty) bytes at (Ok (record { ty = ty; locals = types; body = body }, end))
code-ok {bytes = bytes} {at = at} {end = end} ty types body h = record {
  found = record { forward = h.found.forward; within = h.found.within; spelling = (refl, h.found.spelling) };
  complete = λ w to s.
      let same = h.complete (w.locals, w.body) to (record { forward = s.forward; within = s.within; spelling = s.spelling.1 }) in
      (ap (λ (p : List ValTy × List Instr). let f : Func = record { ty = ty; locals = p.0; body = p.1 } in f) same.0 ∙ ap (λ (n : ℕ). let f : Func = record { ty = n; locals = w.locals; body = w.body } in f) (sym s.spelling.0), same.1);
}

pub code-err : {bytes : List ℕ} {at : ℕ} {e : DecodeFault} (ty : ℕ) → Reads (λ (p : List ValTy × List Instr). sized (pair locals expr p)) bytes at (Err e) → Reads (code_of ty) bytes at (Err e)
code-err ty h = record {
  found = tt;
  complete = λ w to s. h.complete (w.locals, w.body) to (record { forward = s.forward; within = s.within; spelling = s.spelling.1 });
}

-- ---- the codes of the functions of a module

types_of : List Func → List ℕ
types_of funcs = map (λ f. f.ty) funcs

codes_vec : {bytes : List ℕ} {from end : ℕ} (types : List ℕ) (all : List Func) → Spelled (codes_of types all) bytes from end → Spelled (vec code all) bytes from end
codes_vec types all s = record { forward = s.forward; within = s.within; spelling = s.spelling.1 }

-- of the functions with types of these indices, the first were read, up to a position
pub record CodeRow (bytes : List ℕ) (start : ℕ) (types : List ℕ) (funcs : List Func) (at : ℕ) : Type 0 where
  pub numbers : map (λ f. f.ty) funcs ≡ take (length funcs) types
  pub found : Spelled (each code funcs) bytes start at
  pub complete : (all : List Func) (end : ℕ) → map (λ f. f.ty) all ≡ types → Spelled (each code all) bytes start end → Behind code bytes at end funcs all

pub codes-none : (bytes : List ℕ) (start : ℕ) (types : List ℕ) → start ≤ length bytes → CodeRow bytes start types [] start
codes-none bytes start types within = record {
  numbers = refl;
  found = none_here bytes start within;
  complete = λ all end same s. record { rest = all; whole = refl; spelled = s };
}

map-more : (funcs : List Func) (f : Func) → types_of (funcs ++ f ∷ []) ≡ types_of funcs ++ f.ty ∷ []
unfolding types_of
map-more [] f = refl
map-more (g ∷ funcs) f = ap (λ (rest : List ℕ). g.ty ∷ rest) (map-more funcs f)

-- the type of the next function has the next index
next_type : (funcs rest : List Func) (r : Func) (types : List ℕ) (ty : ℕ) → types_of (funcs ++ r ∷ rest) ≡ types → slice_get types (length funcs) ≡ Some ty → r.ty ≡ ty
unfolding types_of
next_type [] rest r [] ty same is = absurd (cc)
next_type [] rest r (n ∷ types) ty same is = cc
next_type (f ∷ funcs) rest r [] ty same is = absurd (cc)
next_type (f ∷ funcs) rest r (n ∷ types) ty same is =
    let tails : types_of (funcs ++ r ∷ rest) ≡ types = cc in
    next_type funcs rest r types ty tails is

code_after : {bytes : List ℕ} {at next end ty : ℕ} {f r : Func} (rest : List Func) → Reads (code_of ty) bytes at (Ok (f, next)) → r.ty ≡ ty → Spelled (each code (r ∷ rest)) bytes at end → (f ≡ r) × Spelled (each code rest) bytes next end
code_after {bytes = bytes} {end = end} {r = r} rest h is s =
    let parts = split s in
    let first = h.complete r parts.mid (record { forward = parts.first.forward; within = parts.first.within; spelling = (is, parts.first.spelling) }) in
    (first.0, subst (λ (m : ℕ). Spelled (each code rest) bytes m end) (sym first.1) parts.second)

-- another code is read
code_behind : (bytes : List ℕ) (at next end ty : ℕ) (types : List ℕ) (funcs : List Func) (f : Func) (all rest : List Func) → length funcs < length types → slice_get types (length funcs) ≡ Some ty → types_of all ≡ types → all ≡ funcs ++ rest → Spelled (each code rest) bytes at end → Reads (code_of ty) bytes at (Ok (f, next)) → Behind code bytes next end (funcs ++ f ∷ []) all
unfolding types_of
code_behind bytes at next end ty types funcs f all [] few is same whole s h =
    let long : length all ≡ length types = sym (length-map all (λ (f : Func). f.ty)) ∙ ap length same in
    absurd (omega (arith, ap length whole, ap length (append-nil funcs), few, long))
code_behind bytes at next end ty types funcs f all (r ∷ rest) few is same whole s h =
    let here = next_type funcs rest r types ty (ap types_of (sym whole) ∙ same) is in
    let after = code_after rest h here s in
    record {
      rest = rest;
      whole = whole ∙ ap (λ (first : Func). funcs ++ first ∷ rest) (sym after.0) ∙ sym (append_assoc funcs (f ∷ []) rest);
      spelled = after.1;
    }

same_number : (types : List ℕ) (i d e : ℕ) → i < length types → get_or types i d ≡ get_or types i e
same_number [] i d e within = absurd (omega arith)
same_number (n ∷ types) zero d e within = refl
same_number (n ∷ types) (suc i) d e within = same_number types i d e (omega arith)

-- the index of the next function's type
next_there : (types : List ℕ) (i n d : ℕ) → n ≡ i → i < length types → slice_get types n ≡ Some (get_or types i d)
next_there types i n d here within =
    get_or-slice_get types n (omega (arith, here, within)) ∙ ap (λ (k : ℕ). Some (get_or types k 0)) here ∙ ap (λ (k : ℕ). Some k) (same_number types i 0 d within)

pub codes-more : {bytes : List ℕ} {start at next : ℕ} {types : List ℕ} {funcs : List Func} {f : Func} (i d : ℕ) → length funcs ≡ i → i < length types → CodeRow bytes start types funcs at → Reads (code_of (get_or types i d)) bytes at (Ok (f, next)) → CodeRow bytes start types (funcs ++ f ∷ []) next
unfolding types_of
codes-more {bytes = bytes} {start = start} {at = at} {next = next} {types = types} {funcs = funcs} {f = f} i d here within row h =
    let few : length funcs < length types = omega (arith, here, within) in
    let long : length (funcs ++ f ∷ []) ≡ length funcs + 1 = omega (arith, length-append funcs (f ∷ [])) in
    let code_here : Spelled (code f) bytes at next = record { forward = h.found.forward; within = h.found.within; spelling = h.found.spelling.1 } in
    let number : f.ty ≡ get_or types (length funcs) d = h.found.spelling.0 ∙ ap (λ (k : ℕ). get_or types k d) (sym here) in
    record {
      numbers = map-more funcs f ∙ ap (λ (n : ℕ). types_of funcs ++ n ∷ []) number ∙ ap (λ (front : List ℕ). front ++ get_or types (length funcs) d ∷ []) row.numbers ∙ sym (take_more types (length funcs) d few) ∙ ap (λ (n : ℕ). take n types) (sym long);
      found = each-more code bytes start at next funcs f code_here.within row.found code_here;
      complete = λ all end same s.
          let following = row.complete all end same s in
          code_behind bytes at next end (get_or types i d) types funcs f all following.rest few (next_there types i (length funcs) d here within) same following.whole following.spelled h;
    }

-- no other is
code_unread : (bytes : List ℕ) (at end ty : ℕ) (types : List ℕ) (funcs all rest : List Func) (e : DecodeFault) → length funcs < length types → slice_get types (length funcs) ≡ Some ty → types_of all ≡ types → all ≡ funcs ++ rest → Spelled (each code rest) bytes at end → Reads (code_of ty) bytes at (Err e) → e ≡ NoMemory
unfolding types_of
code_unread bytes at end ty types funcs all [] e few is same whole s h =
    let long : length all ≡ length types = sym (length-map all (λ (f : Func). f.ty)) ∙ ap length same in
    absurd (omega (arith, ap length whole, ap length (append-nil funcs), few, long))
code_unread bytes at end ty types funcs all (r ∷ rest) e few is same whole s h =
    let here = next_type funcs rest r types ty (ap types_of (sym whole) ∙ same) is in
    let parts = split s in
    h.complete r parts.mid (record { forward = parts.first.forward; within = parts.first.within; spelling = (here, parts.first.spelling) })

pub codes-err : {bytes : List ℕ} {from start count at : ℕ} {types : List ℕ} {funcs : List Func} {e : DecodeFault} (i d : ℕ) → Reads u32 bytes from (Ok (count, start)) → length funcs ≡ i → i < length types → CodeRow bytes start types funcs at → Reads (code_of (get_or types i d)) bytes at (Err e) → Reads (codes_of types) bytes from (Err e)
unfolding types_of
codes-err {bytes = bytes} {at = at} {types = types} {funcs = funcs} {e = e} i d counted here within row h = record {
  found = tt;
  complete = λ all end s.
      let after = after_read {w = length all} counted (codes_vec types all s) in
      let following = row.complete all end s.spelling.0 after.1 in
      code_unread bytes at end (get_or types i d) types funcs all following.rest e (omega (arith, here, within)) (next_there types i (length funcs) d here within) s.spelling.0 following.whole following.spelled h;
}

pub codes-uncounted : {bytes : List ℕ} {from : ℕ} {e : DecodeFault} (types : List ℕ) → Reads u32 bytes from (Err e) → Reads (codes_of types) bytes from (Err e)
codes-uncounted types h = record {
  found = tt;
  complete = λ all end s. none_read {w = length all} h (split (codes_vec types all s)).first;
}

-- another number of codes than of types
pub codes-miscounted : {bytes : List ℕ} {from start count : ℕ} (types : List ℕ) → Reads u32 bytes from (Ok (count, start)) → (count ≡ length types → ⊥) → Reads (codes_of types) bytes from (Err Malformed)
codes-miscounted types h other = record {
  found = tt;
  complete = λ all end s.
      let after = after_read {w = length all} h (codes_vec types all s) in
      absurd (other (after.0 ∙ sym (length-map all (λ (f : Func). f.ty)) ∙ ap length s.spelling.0));
}

-- all were read
codes_behind : (bytes : List ℕ) (at end : ℕ) (funcs all rest : List Func) → length funcs ≡ length all → all ≡ funcs ++ rest → Spelled (each code rest) bytes at end → (funcs ≡ all) × (at ≡ end)
codes_behind bytes at end funcs all [] long whole s = (sym (whole ∙ append-nil funcs), none_only s)
codes_behind bytes at end funcs all (r ∷ rest) long whole s =
    absurd (omega (arith, ap length whole, length-append funcs (r ∷ rest)))

pub codes-ok : {bytes : List ℕ} {from start count at : ℕ} {types : List ℕ} {funcs : List Func} → Reads u32 bytes from (Ok (count, start)) → count ≡ length types → length funcs ≡ length types → CodeRow bytes start types funcs at → Reads (codes_of types) bytes from (Ok (funcs, at))
codes-ok {bytes = bytes} {from = from} {start = start} {at = at} {types = types} {funcs = funcs} h counted long row =
    let whole : Spelled (vec code funcs) bytes from at = join (subst (λ (n : ℕ). Spelled (u32 n) bytes from start) (counted ∙ sym long) h.found) row.found in
    record {
      found = record {
        forward = whole.forward;
        within = whole.within;
        spelling = (row.numbers ∙ ap (λ (n : ℕ). take n types) long ∙ take-length types, whole.spelling);
      };
      complete = λ all end s.
          let after = after_read {w = length all} h (codes_vec types all s) in
          let following = row.complete all end s.spelling.0 after.1 in
          codes_behind bytes at end funcs all following.rest (long ∙ sym counted ∙ after.0) following.whole following.spelled;
    }
