-- The shortest spellings: those in which each byte after the first is needed. How a loop writes them.
use Rattle.std.proofs.Common.{◌≡◌, ℕ, ◌+◌, ◌-◌, ◌*◌, ◌/◌, ◌%◌, ◌^◌, ◌<◌, ◌≤◌, ◌⊎◌, ℤ, pos, ◌+ℤ◌, ◌-ℤ◌, ◌*ℤ◌, neg_ℤ, ◌≤ℤ◌, ◌<ℤ◌, List, [], ◌∷◌, ◌++◌, length, take, set, refl, ap, subst, ◌∙◌, append_assoc, inl, inr, arith}
use Rattle.std.proofs.Math.Pow.{pow_mono}
use Rattle.std.proofs.lemmas.Bool.{cases_lt}
use Rattle.std.proofs.lemmas.Int.{ints}
use Rattle.std.proofs.lemmas.List.{length-set, take_more_set}
use Rattle.wa_syntax.specs.Leb128.{IsUnsigned, IsLastSigned, IsSigned, IsShortest}
use Rattle.wa_syntax.proofs.Places.{pow-seven}
use Rattle.wa_syntax.proofs.Signed.{IsWithin}

-- more than seven bits
seven_from : (bits : ℕ) → 128 < 2 ^ bits → 7 < bits
seven_from bits h = elim (cases_lt 7 bits) [
  | inl more ↦ more
  | inr few ↦
      absurd (let most : 2 ^ bits ≤ 2 ^ 7 = pow_mono few in
      omega arith)
]

-- what spells the rest spells the whole once the first byte is put before it
pub record Completes {V : Type 0} (IsSpelling : List ℕ → V → Type 0) (front : List ℕ) (rest v : V) : Type 0 where
  pub following : (tail : List ℕ) → IsSpelling tail rest → IsSpelling (front ++ tail) v

pub Completes-more : {V : Type 0} (IsSpelling : List ℕ → V → Type 0) (bytes : List ℕ) (len byte : ℕ) (rest high v : V) → len < length bytes → ((tail : List ℕ) → IsSpelling tail high → IsSpelling (byte ∷ tail) rest) → Completes IsSpelling (take len bytes) rest v → Completes IsSpelling (take (len + 1) (set bytes len byte)) high v
Completes-more IsSpelling bytes len byte rest high v within in_front h = record {
  following = λ tail k. rw (take_more_set bytes len byte within, append_assoc) (h.following (byte ∷ tail) (in_front tail k));
}

pub Completes-last : {V : Type 0} (IsSpelling : List ℕ → V → Type 0) (bytes : List ℕ) (len byte : ℕ) (rest v : V) → len < length bytes → IsSpelling (byte ∷ []) rest → Completes IsSpelling (take len bytes) rest v → IsSpelling (take (len + 1) (set bytes len byte)) v
Completes-last IsSpelling bytes len byte rest v within last h = rw (take_more_set bytes len byte within) (h.following (byte ∷ []) last)

-- ---- without a sign

abbrev pub IsShort : List ℕ → ℕ → Type 0
IsShort [] n = ⊥
IsShort (b ∷ []) n = (b < 128) × (n ≡ b)
IsShort (b ∷ c ∷ bytes) n = (128 ≤ b) × (b < 256) × (m : ℕ) × (0 < m) × (n ≡ 128 * m + (b - 128)) × IsShort (c ∷ bytes) m

pub IsShort-more : (b : ℕ) (bytes : List ℕ) (m n : ℕ) → 128 ≤ b → b < 256 → 0 < m → n ≡ 128 * m + (b - 128) → IsShort bytes m → IsShort (b ∷ bytes) n
IsShort-more b [] m n from below some is h = absurd h
IsShort-more b (c ∷ bytes) m n from below some is h = (from, below, m, some, is, h)

IsShort-spelling : (bits : ℕ) (bytes : List ℕ) (n : ℕ) → n < 2 ^ bits → IsShort bytes n → IsUnsigned bits bytes n
IsShort-spelling bits [] n fits h = absurd h
IsShort-spelling bits (b ∷ []) n fits h = (h.0, omega (arith, h.1), h.1)
IsShort-spelling bits (b ∷ c ∷ bytes) n fits h =
    let more : 7 < bits = seven_from bits (omega (arith, h.3, h.4)) in
    let seven = pow-seven bits (omega arith) in
    (h.0, h.1, more, h.2, h.4, IsShort-spelling (bits - 7) (c ∷ bytes) h.2 (omega (arith, h.4)) h.5)

IsShort-least : (bits : ℕ) (bytes other : List ℕ) (m n : ℕ) → m ≡ n → IsShort bytes m → IsUnsigned bits other n → length bytes ≤ length other
IsShort-least bits [] other m n same h k = omega arith
IsShort-least bits (b ∷ bytes) [] m n same h k = absurd k
IsShort-least bits (b ∷ []) (d ∷ other) m n same h k = omega arith
IsShort-least bits (b ∷ c ∷ bytes) (d ∷ []) m n same h k = absurd (omega (arith, h.3, h.4, k.0, k.2))
IsShort-least bits (b ∷ c ∷ bytes) (d ∷ e ∷ other) m n same h k =
    omega (arith, IsShort-least (bits - 7) (c ∷ bytes) (e ∷ other) h.2 k.3 (omega (arith, h.0, h.1, h.4, k.0, k.1, k.4)) h.5 k.5)

pub IsShortest-from_short : (bits : ℕ) (bytes : List ℕ) (n : ℕ) → n < 2 ^ bits → IsShort bytes n → IsShortest (IsUnsigned bits) bytes n
IsShortest-from_short bits bytes n fits h = record {
  spelling = IsShort-spelling bits bytes n fits h;
  least = λ other k. IsShort-least bits bytes other n n refl h k;
}

-- how far a loop has written a u32
pub record IsWritten (bytes : List ℕ) (len rest v : ℕ) : Type 0 where
  pub room : length bytes ≡ 5
  pub few : len ≤ 4
  pub fits : rest < 2 ^ (32 - 7 * len)
  pub completes : Completes IsShort (take len bytes) rest v

pub IsWritten-more : (bytes : List ℕ) (len rest v : ℕ) → 128 ≤ rest → IsWritten bytes len rest v → IsWritten (set bytes len (rest % 128 + 128)) (len + 1) (rest / 128) v
IsWritten-more bytes len rest v from h =
    let more : 7 < 32 - 7 * len = seven_from (32 - 7 * len) (omega (arith, h.fits)) in
    let seven : 2 ^ (32 - 7 * len) ≡ 128 * 2 ^ (32 - 7 * (len + 1)) = pow-seven (32 - 7 * len) (omega arith) ∙ ap (λ (k : ℕ). 128 * 2 ^ k) (omega arith) in
    record {
      room = omega (arith, h.room, length-set bytes len (rest % 128 + 128));
      few = omega arith;
      fits = omega (arith, h.fits);
      completes = Completes-more IsShort bytes len (rest % 128 + 128) rest (rest / 128) v (omega (arith, h.room, h.few)) (λ tail k. IsShort-more (rest % 128 + 128) tail (rest / 128) rest (omega arith) (omega arith) (omega arith) (omega arith) k) h.completes;
    }

pub IsWritten-last : (bytes : List ℕ) (len rest v : ℕ) → rest < 128 → v < 2 ^ 32 → IsWritten bytes len rest v → IsShortest (IsUnsigned 32) (take (len + 1) (set bytes len rest)) v
IsWritten-last bytes len rest v small fits h =
    IsShortest-from_short 32 (take (len + 1) (set bytes len rest)) v fits (Completes-last IsShort bytes len rest rest v (omega (arith, h.room, h.few)) (small, refl) h.completes)

-- ---- with a sign

-- a number that one byte doesn't have
abbrev pub IsLong : ℤ → Type 0
IsLong z = (z <ℤ neg_ℤ (pos 64)) ⊎ (pos 64 ≤ℤ z)

abbrev pub IsShortSigned : List ℕ → ℤ → Type 0
IsShortSigned [] z = ⊥
IsShortSigned (b ∷ []) z = ((b < 64) × (z ≡ pos b)) ⊎ ((64 ≤ b) × (b < 128) × (z ≡ pos b -ℤ pos 128))
IsShortSigned (b ∷ c ∷ bytes) z = (128 ≤ b) × (b < 256) × (m : ℤ) × IsLong z × (z ≡ pos 128 *ℤ m +ℤ pos (b - 128)) × IsShortSigned (c ∷ bytes) m

pub IsShortSigned-more : (b : ℕ) (bytes : List ℕ) (m z : ℤ) → 128 ≤ b → b < 256 → IsLong z → z ≡ pos 128 *ℤ m +ℤ pos (b - 128) → IsShortSigned bytes m → IsShortSigned (b ∷ bytes) z
IsShortSigned-more b [] m z from below long is h = absurd h
IsShortSigned-more b (c ∷ bytes) m z from below long is h = (from, below, m, long, is, h)

-- a number past one byte takes more than seven bits
long_bits : (bits : ℕ) (z : ℤ) → IsLong z → IsWithin (2 ^ (bits - 1)) z → 7 < bits
long_bits bits z long within =
    elim (cases_lt 7 bits) [
      | inl more ↦ more
      | inr few ↦
          let most : 2 ^ (bits - 1) ≤ 2 ^ 6 = pow_mono {i = bits - 1} {j = 6} (omega arith) in
          absurd (elim long [ inl low ↦ omega (arith, ints, within.from) | inr high ↦ omega (arith, ints, within.below) ])
    ]

-- what is left of the bits, above the low seven
IsWithin-high : (bits b : ℕ) (m z : ℤ) → 7 < bits → b < 256 → z ≡ pos 128 *ℤ m +ℤ pos (b - 128) → IsWithin (2 ^ (bits - 1)) z → IsWithin (2 ^ (bits - 7 - 1)) m
IsWithin-high bits b m z more below is within =
    let top : bits - 1 - 7 ≡ bits - 7 - 1 = omega arith in
    let seven : 2 ^ (bits - 1) ≡ 128 * 2 ^ (bits - 7 - 1) = pow-seven (bits - 1) (omega arith) ∙ ap (λ (k : ℕ). 128 * 2 ^ k) top in
    record { from = omega (arith, ints, within.from); below = omega (arith, ints, within.below) }

IsShortSigned-spelling : (bits : ℕ) (bytes : List ℕ) (z : ℤ) → IsWithin (2 ^ (bits - 1)) z → IsShortSigned bytes z → IsSigned bits bytes z
IsShortSigned-spelling bits [] z within h = absurd h
IsShortSigned-spelling bits (b ∷ []) z within h =
    elim h [
      | inl plain ↦ inl (plain.0, omega (arith, ints, within.below, plain.1), plain.1)
      | inr less ↦ inr (less.0, less.1, omega (arith, ints, within.from, less.2), less.2)
    ]
IsShortSigned-spelling bits (b ∷ c ∷ bytes) z within h =
    let more : 7 < bits = long_bits bits z h.3 within in
    (h.0, h.1, more, h.2, h.4, IsShortSigned-spelling (bits - 7) (c ∷ bytes) h.2 (IsWithin-high bits b h.2 z more h.1 h.4 within) h.5)

long_last : (bits b : ℕ) (z : ℤ) → IsLong z → IsLastSigned bits b z → ⊥
long_last bits b z long last =
    elim long [
      | inl low ↦ elim last [ inl plain ↦ omega (arith, ints, plain.2) | inr less ↦ omega (arith, ints, less.0, less.3) ]
      | inr high ↦ elim last [ inl plain ↦ omega (arith, ints, plain.0, plain.2) | inr less ↦ omega (arith, ints, less.1, less.3) ]
    ]

IsShortSigned-least : (bits : ℕ) (bytes other : List ℕ) (m z : ℤ) → m ≡ z → IsShortSigned bytes m → IsSigned bits other z → length bytes ≤ length other
IsShortSigned-least bits [] other m z same h k = omega arith
IsShortSigned-least bits (b ∷ bytes) [] m z same h k = absurd k
IsShortSigned-least bits (b ∷ []) (d ∷ other) m z same h k = omega arith
IsShortSigned-least bits (b ∷ c ∷ bytes) (d ∷ []) m z same h k = absurd (long_last bits d z (subst IsLong same h.3) k)
IsShortSigned-least bits (b ∷ c ∷ bytes) (d ∷ e ∷ other) m z same h k =
    omega (arith, IsShortSigned-least (bits - 7) (c ∷ bytes) (e ∷ other) h.2 k.3 (omega (arith, ints, h.0, h.1, h.4, k.0, k.1, k.4)) h.5 k.5)

pub IsShortest-from_short_signed : (bits : ℕ) (bytes : List ℕ) (z : ℤ) → IsWithin (2 ^ (bits - 1)) z → IsShortSigned bytes z → IsShortest (IsSigned bits) bytes z
IsShortest-from_short_signed bits bytes z within h = record {
  spelling = IsShortSigned-spelling bits bytes z within h;
  least = λ other k. IsShortSigned-least bits bytes other z z refl h k;
}

-- how far a loop has written an i64
pub record IsWrittenSigned (bytes : List ℕ) (len : ℕ) (rest v : ℤ) : Type 0 where
  pub room : length bytes ≡ 10
  pub few : len ≤ 9
  pub within : IsWithin (2 ^ (64 - 7 * len - 1)) rest
  pub completes : Completes IsShortSigned (take len bytes) rest v

pub IsWrittenSigned-more : (bytes : List ℕ) (len low : ℕ) (rest high v : ℤ) → IsLong rest → low < 128 → rest ≡ pos 128 *ℤ high +ℤ pos low → IsWrittenSigned bytes len rest v → IsWrittenSigned (set bytes len (low + 128)) (len + 1) high v
IsWrittenSigned-more bytes len low rest high v long small is h =
    let more : 7 < 64 - 7 * len = long_bits (64 - 7 * len) rest long h.within in
    let less : 64 - 7 * (len + 1) - 1 ≡ 64 - 7 * len - 7 - 1 = omega arith in
    let in_byte : rest ≡ pos 128 *ℤ high +ℤ pos (low + 128 - 128) = is ∙ ap (λ (k : ℕ). pos 128 *ℤ high +ℤ pos k) (omega arith) in
    record {
      room = omega (arith, h.room, length-set bytes len (low + 128));
      few = omega arith;
      within = rw less (IsWithin-high (64 - 7 * len) (low + 128) high rest more (omega arith) in_byte h.within);
      completes = Completes-more IsShortSigned bytes len (low + 128) rest high v (omega (arith, h.room, h.few)) (λ tail k. IsShortSigned-more (low + 128) tail high rest (omega arith) (omega arith) long in_byte k) h.completes;
    }

IsShortSigned-last : (low : ℕ) (rest high : ℤ) → neg_ℤ (pos 64) ≤ℤ rest → rest <ℤ pos 64 → low < 128 → rest ≡ pos 128 *ℤ high +ℤ pos low → IsShortSigned (low ∷ []) rest
IsShortSigned-last low rest high from below small is =
    elim (cases_lt low 64) [
      | inl plain ↦ inl (plain, omega (arith, ints))
      | inr less ↦ inr (less, small, omega (arith, ints))
    ]

pub IsWrittenSigned-last : (bytes : List ℕ) (len low : ℕ) (rest high v : ℤ) → neg_ℤ (pos 64) ≤ℤ rest → rest <ℤ pos 64 → low < 128 → rest ≡ pos 128 *ℤ high +ℤ pos low → IsWrittenSigned bytes len rest v → IsShortSigned (take (len + 1) (set bytes len low)) v
IsWrittenSigned-last bytes len low rest high v from below small is h =
    Completes-last IsShortSigned bytes len low rest v (omega (arith, h.room, h.few)) (IsShortSigned-last low rest high from below small is) h.completes
