-- What `hash` of a type writes to a hasher. It follows from the type without its positions.
use Rattle.std.specs.Prelude.{◌++◌, pos}
use Rattle.std.specs.Hash as fed
use Rattle.std.specs.Hash.{HashWrites}
use Rattle.sa_ast.specs.declared.ty.Mode.{Mode}
use Rattle.sa_ast.specs.declared.ty.Mode.TheVariants.{In, Out, Inout, Once}
use Rattle.sa_ast.specs.Names.{name_writes}
use Rattle.sa_ast.specs.Types.{BareTy, Named, Same, Rout, Iter, BareTys, no_types, type}
use Rattle.sa_ast.specs.Types.{BareArgs, no_args, arg, BareResult, no_result, gives}

-- the variant's number, from 0
abbrev pub mode_writes : Mode → HashWrites
mode_writes In = fed.isize (pos 0)
mode_writes Out = fed.isize (pos 1)
mode_writes Inout = fed.isize (pos 2)
mode_writes Once = fed.isize (pos 3)

-- the variant's number, and then its fields; 4, which begins no type, is written where no more types come
abbrev mutual
  pub type_writes : BareTy → HashWrites
  type_writes (Named name params) = fed.u8 0 ++ name_writes name ++ types_writes params
  type_writes Same = fed.u8 1
  type_writes (Rout args of) = fed.u8 2 ++ args_writes args ++ result_writes of
  type_writes (Iter args of) = fed.u8 3 ++ args_writes args ++ result_writes of

  pub types_writes : BareTys → HashWrites
  types_writes no_types = fed.u8 4
  types_writes (type t more) = type_writes t ++ types_writes more

  pub args_writes : BareArgs → HashWrites
  args_writes no_args = fed.u8 4
  args_writes (arg m t more) = mode_writes m ++ type_writes t ++ args_writes more

  pub result_writes : BareResult → HashWrites
  result_writes no_result = fed.u8 4
  result_writes (gives t) = type_writes t

-- the mode, and then the type
abbrev pub arg_writes : Mode × BareTy → HashWrites
arg_writes a = mode_writes a.0 ++ type_writes a.1
