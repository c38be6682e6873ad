-- The steps of which a run is made.
use Rattle.std.specs.Prelude.{ℕ, zero, suc, ◌+◌, ◌-◌, ◌*◌, ◌/◌, ℤ, pos, negsuc, Bool, true, false, ◌&&◌}
use Rattle.std.specs.Prelude.{if◌then◌else◌, nat_le, List, [], ◌∷◌, ◌++◌, length, set, Option, Some, None}
use Rattle.sa_ast.specs.declared.fault_kind.FaultKind.{FaultKind}
use Rattle.sa_ast.specs.declared.fault_kind.FaultKind.TheVariants as fault_kind
use Rattle.sa_ast.specs.declared.pos.Pos.{Pos}
use Rattle.sa_ast.specs.Faults.{fault_number}
use Rattle.sa_semantics.specs.Value.{Value, Int, Text, Ref, fault_type}
use Rattle.sa_semantics.specs.Program.{Program, line_at}
use Rattle.sa_semantics.specs.Sequence.{Step, Normal, OutOfTurns, ◌>>=◌, ◌>>◌, pure, look, change, stop, at_index, with_index}
use Rattle.sa_semantics.specs.State.{State, Object, Activation, Enter, Leave, Byte, AbruptCause, Raised, Failed, InputFailed}

abbrev pub Eval : Type 0 → Type 0
Eval A = Step State AbruptCause A

-- ---- turns

abbrev pub take_turn : {A : Type 0} → ℕ → Eval A → Eval A
take_turn zero f s = OutOfTurns s
take_turn (suc n) f s = f (record s { turns = n })

-- a step that takes a turn before it
abbrev pub turn : {A : Type 0} → Eval A → Eval A
turn f = λ s. take_turn s.turns f s

abbrev pub spend : ℕ → Eval (Unit {0})
spend zero = pure tt
spend (suc n) = turn (spend n)

-- ---- the kinds of faults

-- Nothing catches a fault for want of room, depth or frames, and `raise` makes no fault.
abbrev pub can_be_caught : FaultKind → Bool
can_be_caught fault_kind.Uncaught = false
can_be_caught fault_kind.NoRoom = false
can_be_caught fault_kind.TooDeep = false
can_be_caught fault_kind.Frames = false
can_be_caught _ = true

-- ---- room

-- the bytes of an object of so many attributes and elements
abbrev pub object_size : ℕ → ℕ → ℕ
object_size attributes elements = 8 * (attributes + 1) + 8 * elements

-- how many times eight bytes so many bytes begin
abbrev pub eights : ℕ → ℕ
eights bytes = (bytes + 7) / 8

abbrev pub text_size : ℕ → ℕ
text_size bytes = 8 + 8 * eights bytes

abbrev pub take_room : ℕ → Eval (Unit {0})
take_room size = change (λ s. record s { room = s.room - size })

abbrev pub charge : Pos → ℕ → Eval (Unit {0})
charge at size = do
  room ← look (λ s. s.room)
  if nat_le size room then take_room size else stop (Failed fault_kind.NoRoom at)

-- ---- objects

-- a new object, by its number
abbrev pub add_object : Object → Eval ℕ
add_object o = λ s. Normal (length s.objects) (record s { objects = s.objects ++ o ∷ [] })

abbrev pub object_at : ℕ → Eval Object
object_at number = look (λ s. s.objects) >>= (λ objects. at_index objects number)

abbrev pub set_object : ℕ → Object → Eval (Unit {0})
set_object number o = change (λ s. record s { objects = set s.objects number o })

abbrev pub plain : ℕ → List Value → List Value → Object
plain ty fields elements = record { ty = ty; fields = fields; elements = elements; binding = None }

-- ---- faults

abbrev pub fault_object : Program → FaultKind → Pos → Object
fault_object p kind at = plain fault_type (Int (pos (fault_number kind)) ∷ Int (pos (line_at p at)) ∷ []) []

abbrev pub raise_new : {A : Type 0} → Object → FaultKind → Pos → Eval A
raise_new o kind at = do
  take_room (object_size 2 0)
  number ← add_object o
  stop (Raised (Ref number) kind at)

-- A fault that can be caught raises a new object that has its kind and its line. Where there is no room for it, and for the other kinds,
-- nothing catches the fault.
abbrev pub fault : {A : Type 0} → Program → FaultKind → Pos → Eval A
fault p kind at = do
  room ← look (λ s. s.room)
  if p.faults_raise && can_be_caught kind && nat_le (object_size 2 0) room
      then raise_new (fault_object p kind at) kind at
      else stop (Failed kind at)

-- ---- texts, output and input

abbrev pub new_text : Pos → List ℕ → Eval Value
new_text at bytes = charge at (text_size (length bytes)) >> pure (Text bytes)

abbrev pub put_byte : ℕ → Eval (Unit {0})
put_byte byte = change (λ s. record s { output = s.output ++ byte ∷ []; trail = s.trail ++ Byte byte ∷ [] })

abbrev pub put_bytes : List ℕ → Eval (Unit {0})
put_bytes [] = pure tt
put_bytes (byte ∷ more) = put_byte byte >> put_bytes more

-- a turn before each eight bytes, of which so many are paid for
abbrev pub put_text : ℕ → List ℕ → Eval (Unit {0})
put_text paid [] = pure tt
put_text zero (byte ∷ more) = turn (put_byte byte >> put_text 7 more)
put_text (suc paid) (byte ∷ more) = put_byte byte >> put_text paid more

abbrev pub set_input : List ℕ → Option ℕ → Eval (Unit {0})
set_input bytes ends = change (λ s. record s { input = record { bytes = bytes; ends = ends } })

abbrev pub got : List ℕ → Option ℕ → Eval ℤ
got (byte ∷ more) ends = set_input more ends >> pure (pos byte)
got [] None = pure (negsuc 0)
got [] (Some zero) = stop InputFailed
got [] (Some (suc ends)) = set_input [] (Some ends) >> pure (negsuc 0)

-- the next byte of the input, or -1 at its end
abbrev pub get_byte : Eval ℤ
get_byte = look (λ s. s.input) >>= (λ input. got input.bytes input.ends)

-- ---- variables

abbrev pub read : ℕ → Eval Value
read var = look (λ s. s.here.variables) >>= (λ variables. at_index variables var)

abbrev pub write : ℕ → Value → Eval (Unit {0})
write var v = do
  variables ← look (λ s. s.here.variables)
  changed ← with_index variables var v
  change (λ s. record s { here = record (s.here) { variables = changed } })

-- ---- entries and exits of features

abbrev pub enter : ℕ → Activation → Eval (Unit {0})
enter feature a = change (λ s. record s { here = a; trail = s.trail ++ Enter feature ∷ [] })

-- back to the caller
abbrev pub leave : ℕ → Activation → Eval (Unit {0})
leave feature a = change (λ s. record s { here = a; trail = s.trail ++ Leave feature ∷ [] })

abbrev pub checked_depth : Pos → Activation → Eval (Unit {0})
checked_depth at caller = if nat_le 10000 caller.depth then stop (Failed fault_kind.TooDeep at) else pure tt

abbrev pub checked_live : Pos → Eval (Unit {0})
checked_live at = look (λ s. s.live) >>= (λ live. if nat_le 10000 live then stop (Failed fault_kind.Frames at) else pure tt)
