-- What the parts of a module may name, from what the code gathers.
use Rattle.std.proofs.Common.{◌≡◌, ℕ, ◌+◌, List, [], ◌++◌, length, map, ap, ◌∙◌}
use Rattle.std.specs.Prelude.{filter_map}
use Rattle.wa_syntax.specs.declared.module.FuncTy.{FuncTy}
use Rattle.wa_syntax.specs.declared.module.Func.{Func}
use Rattle.wa_syntax.specs.declared.module.GlobalTy.{GlobalTy}
use Rattle.wa_syntax.specs.declared.module.GlobalDef.{GlobalDef}
use Rattle.wa_syntax.specs.declared.module.Import.{Import}
use Rattle.wa_syntax.specs.declared.module.Module.{Module}
use Rattle.wa_syntax.specs.Validity.{Context}
use Rattle.wa_syntax.specs.ValidModule.{context_of, imported, imported_function, imported_table, imported_memory, imported_global}

abbrev pub context_with : List FuncTy → List ℕ → ℕ → ℕ → List GlobalTy → Context
context_with types funcs tables memories globals = record {
  types = types;
  funcs = funcs;
  tables = tables;
  memories = memories;
  globals = globals;
  locals = [];
  labels = [];
  results = [];
}

pub context-is : (m : Module) (types : List FuncTy) (imports : List Import) (own : List Func) (own_globals : List GlobalDef) (funcs : List ℕ) (tables memories : ℕ) (globals : List GlobalTy)
    → types ≡ m.types → imports ≡ m.imports → own ≡ m.funcs → own_globals ≡ m.globals
    → funcs ≡ filter_map (λ (import : Import). imported_function import.kind) imports ++ map (λ (func : Func). func.ty) own
    → tables ≡ length (filter_map (λ (import : Import). imported_table import.kind) imports) + length m.tables
    → memories ≡ length (filter_map (λ (import : Import). imported_memory import.kind) imports) + length m.memories
    → globals ≡ filter_map (λ (import : Import). imported_global import.kind) imports ++ map (λ (global : GlobalDef). global.ty) own_globals
    → context_with types funcs tables memories globals ≡ context_of m
context-is m types imports own own_globals funcs tables memories globals types_is imports_is own_is globals_are f t n g =
    let f' = f ∙ ap (λ (is : List Import). filter_map (λ (import : Import). imported_function import.kind) is ++ map (λ (func : Func). func.ty) own) imports_is ∙ ap (λ (os : List Func). imported imported_function m ++ map (λ (func : Func). func.ty) os) own_is in
    let t' = t ∙ ap (λ (is : List Import). length (filter_map (λ (import : Import). imported_table import.kind) is) + length m.tables) imports_is in
    let n' = n ∙ ap (λ (is : List Import). length (filter_map (λ (import : Import). imported_memory import.kind) is) + length m.memories) imports_is in
    let g' = g ∙ ap (λ (is : List Import). filter_map (λ (import : Import). imported_global import.kind) is ++ map (λ (global : GlobalDef). global.ty) own_globals) imports_is ∙ ap (λ (os : List GlobalDef). imported imported_global m ++ map (λ (global : GlobalDef). global.ty) os) globals_are in
    ap (λ (x : List FuncTy). context_with x funcs tables memories globals) types_is
    ∙ ap (λ (x : List ℕ). context_with m.types x tables memories globals) f'
    ∙ ap (λ (x : ℕ). context_with m.types (imported imported_function m ++ map (λ (func : Func). func.ty) m.funcs) x memories globals) t'
    ∙ ap (λ (x : ℕ). context_with m.types (imported imported_function m ++ map (λ (func : Func). func.ty) m.funcs) (length (imported imported_table m) + length m.tables) x globals) n'
    ∙ ap (λ (x : List GlobalTy). context_with m.types (imported imported_function m ++ map (λ (func : Func). func.ty) m.funcs) (length (imported imported_table m) + length m.tables) (length (imported imported_memory m) + length m.memories) x) g'
