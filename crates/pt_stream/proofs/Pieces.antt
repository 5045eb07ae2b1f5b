-- What stands after some pieces of an input or an output, and how one more piece adds to it.
use Rattle.std.proofs.Common.{◌≡◌, ℕ, ◌+◌, ◌-◌, ◌^◌, ◌<◌, ◌≤◌, List, [], ◌++◌, length, take, drop, ap, sym, subst, ◌∙◌, arith, append-nil, length-append, length-take, refl, IfSome}
use Rattle.std.specs.Prelude.{Option, None, Some, Result, Ok, Err, OnErr}
use Rattle.std.proofs.lemmas.List.{take_all}
use Rattle.std.specs.Io.KnownBytes.{Consumes, Appends, IsAtEnd, Keeps}
use Rattle.std.proofs.KnownBytes.{Appends-kept, Appends-trans}
use Rattle.std.proofs.Math.Seq.{take-add}
use Rattle.pt_stream.specs.Bytes.{AppendsPart, ConsumesAll}
use Rattle.pt_stream.specs.Rooms.{Fits, IsCutOff, IsFull, IsPut, IsTooLong, IsWithin}

-- after some pieces of an input
pub record Reading (left_before left : Option (List ℕ)) (given_before given faults_before faults limit : ℕ) (bytes : List ℕ) : Type 0 where
  pub within : length bytes ≤ limit
  pub taken : Consumes left_before left bytes
  pub counted : given < 2 ^ 64 - 1 → given ≡ given_before + length bytes
  pub at_most : given ≤ given_before + length bytes
  pub later : faults_before ≤ faults

-- after some pieces of an output
pub record Writing (room_before room : Option ℕ) (held_before held : Option (List ℕ)) (faults_before faults done : ℕ) (bytes : List ℕ) : Type 0 where
  pub within : done ≤ length bytes
  pub appended : Appends held_before held (take done bytes)
  pub same : room ≡ room_before
  pub fits : Fits room_before held_before (take done bytes)
  pub later : faults_before ≤ faults

pub all_consumed : (a b : Option (List ℕ)) (bytes : List ℕ) → Consumes a b bytes → IsAtEnd b → ConsumesAll a b bytes
all_consumed None b bytes p q = tt
all_consumed (Some x) None bytes p q = absurd p
all_consumed (Some x) (Some y) bytes p q = (sym (p ∙ ap (λ l. bytes ++ l) q ∙ append-nil bytes), ap (λ l. Some l) q)

pub too_many : (a b c : Option (List ℕ)) (bytes more : List ℕ) (limit : ℕ) → Consumes a b bytes → Consumes b c more → limit < length bytes + length more → IfSome a (λ xs. limit < length xs)
too_many None b c bytes more limit p q h = tt
too_many (Some x) None c bytes more limit p q h = absurd p
too_many (Some x) (Some y) None bytes more limit p q h = absurd q
too_many (Some x) (Some y) (Some z) bytes more limit p q h =
    omega (arith, ap length p, ap length q, length-append bytes y, length-append more z)

pub appended_next : (a b c : Option (List ℕ)) (bytes : List ℕ) (done n : ℕ) → Appends a b (take done bytes) → Appends b c (take n (drop done bytes)) → Appends a c (take (done + n) bytes)
appended_next a b c bytes done n p q = subst (Appends a c) (sym (take-add done n bytes)) (Appends-trans a b c _ _ p q)

-- what was appended fits, where the bytes held then are within the room
pub appended_fits : (room : Option ℕ) (held held' : Option (List ℕ)) (bytes : List ℕ) → Appends held held' bytes → IsWithin room held' → Fits room held bytes
appended_fits None held held' bytes p h = tt
appended_fits (Some r) None held' bytes p h = tt
appended_fits (Some r) (Some x) None bytes p h = absurd p
appended_fits (Some r) (Some x) (Some y) bytes p h = omega (arith, ap length p, length-append x bytes, h)

-- no byte fits at first
pub nothing_fits : (room : Option ℕ) (held : Option (List ℕ)) → Fits room held []
nothing_fits None held = tt
nothing_fits (Some r) None = tt
nothing_fits (Some r) (Some x) = omega arith

-- bytes of which only a front part was appended are too long, where the room is full then
too_long : (room : Option ℕ) (held held' : Option (List ℕ)) (bytes : List ℕ) (done : ℕ) → done < length bytes → Appends held held' (take done bytes) →
    IsFull room held' → IsTooLong room held bytes
too_long None held held' bytes done h p full = tt
too_long (Some r) None held' bytes done h p full = tt
too_long (Some r) (Some x) None bytes done h p full = absurd p
too_long (Some r) (Some x) (Some y) bytes done h p full =
    omega (arith, ap length p, length-append x (take done bytes), length-take done bytes, full, h)

pub cut_off : (room : Option ℕ) (a b c : Option (List ℕ)) (bytes : List ℕ) (done : ℕ) → done < length bytes → Appends a b (take done bytes) →
    Keeps b c → IsFull room c → IsCutOff room a c bytes
cut_off room a b c bytes done h p q full =
    let held = Appends-kept a b c (take done bytes) p q in
    record { part = (done, h, held); too_long = too_long room a c bytes done h held full }

pub all_put : (room : Option ℕ) (a b : Option (List ℕ)) (bytes : List ℕ) (done : ℕ) → length bytes ≤ done → Appends a b (take done bytes) →
    Fits room a (take done bytes) → IsPut room a b bytes
all_put room a b bytes done h p fits = subst (IsPut room a b) (take_all done bytes h) (record { appended = p; fits = fits })

pub err_goal : {T E : Type 0} → (result : Result T E) (X : Type 0) → X → OnErr result X
err_goal (Ok v) X x = tt
err_goal (Err e) X x = x
