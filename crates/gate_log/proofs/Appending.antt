-- What a stop leaves in each of the two steps of an append.
use Rattle.std.proofs.Common.{◌≡◌, inl, inr, ℕ, ◌+◌, ◌^◌, ◌<◌, ◌≤◌, max, List, [], ◌∷◌, ◌++◌, length, take, drop, get_or, sym, ◌∙◌, ap, subst, arith, length-drop, length-append, append_assoc}
use Rattle.std.proofs.lemmas.Bool.{cases_eq}
use Rattle.std.proofs.lemmas.List.{take_at, drop_at, take-take, length-take-le, drop-drop, get_or-drop}
use Rattle.host_desk.specs.Desk.{Desk, Torn, Holds}
use Rattle.host_desk.specs.Since.{Touches}
use Rattle.host_desk.proofs.Moments.{touches_then, touches_weaken}
use Rattle.gate_log.specs.Format.{says, LogSays, is_log, with_body, EndsAt, frame_of}
use Rattle.gate_log.specs.Numbers.{bytes_32}
use Rattle.gate_log.specs.Log.{IsWithOrWithout, HasRecord, with_record_at}
use Rattle.gate_log.proofs.NumberBytes.{length-bytes_32}
use Rattle.gate_log.proofs.Files.{gate_shut, says_same, says_behind, says_more, header_kept}

pub end_there : (bytes : List ℕ) (place : ℕ) → EndsAt bytes place → place < length bytes
end_there bytes place ends = (gate_shut bytes _ _ _ place ends.is).there

get_or_place : (l : List ℕ) (n : ℕ) → get_or l n 0 ≡ get_or (drop n l) 0 0
get_or_place l n = let same : n ≡ n + 0 = omega arith in ap (λ (k : ℕ). get_or l k 0) same ∙ sym (get_or-drop n l 0 0)

-- a write within a file: its parts
pub record Written (old : List ℕ) (at : ℕ) (piece new : List ℕ) : Type 0 where
  pub before : take at new ≡ take at old
  pub there : drop at new ≡ piece ++ drop (at + length piece) old
  pub size : at + length piece ≤ length new

pub written : (old : List ℕ) (at : ℕ) (piece new : List ℕ) → at ≤ length old → Holds old at piece new → Written old at piece new
written old at piece new le holds =
    let rest = piece ++ drop (at + length piece) old in
    let front : length (take at old) ≡ at = length-take-le at old le in
    let is : new ≡ take at old ++ rest = holds ∙ append_assoc (take at old) piece (drop (at + length piece) old) in record {
      before = ap (λ (l : List ℕ). take at l) is ∙ take_at (take at old) rest at front;
      there = ap (λ (l : List ℕ). drop at l) is ∙ drop_at (take at old) rest at front;
      size = omega (arith, ap length is, length-append (take at old) rest, length-append piece (drop (at + length piece) old));
    }

pub written_length : (old : List ℕ) (at : ℕ) (piece new : List ℕ) → at ≤ length old → Holds old at piece new → length new ≡ max (length old) (at + length piece)
written_length old at piece new le holds =
    let rest = drop (at + length piece) old in
    omega (arith, ap length holds, length-append (take at old ++ piece) rest, length-append (take at old) piece, length-take-le at old le, length-drop (at + length piece) old)

length-frame_of : (body : List ℕ) → length (frame_of body) ≡ 5 + length body
length-frame_of body = omega (arith, length-append (bytes_32 (length body) ++ body) (0 ∷ []), length-append (bytes_32 (length body)) body, length-bytes_32 (length body))

module _ (bytes : List ℕ) (place : ℕ) (body : List ℕ) (ends : EndsAt bytes place) (some : 0 < length body) (fits : length body < 2 ^ 32) where
  there : place < length bytes
  there = end_there bytes place ends

  -- the first write leaves the log
  pub behind : (c : List ℕ) → Torn (place + 1) (length (frame_of body)) bytes c → says c ≡ says bytes
  behind c torn = says_behind bytes _ _ _ place ends.is c torn.before (omega (arith, torn.no_shorter, there)) ∙ sym ends.is

  module _ (mid : List ℕ) (framed : Holds bytes (place + 1) (frame_of body) mid) where
    abbrev beyond : List ℕ
    beyond = drop (place + 1 + length (frame_of body)) bytes

    w : Written bytes (place + 1) (frame_of body) mid
    w = written bytes (place + 1) (frame_of body) mid (omega (arith, there)) framed

    front : take place mid ≡ take place bytes
    front = sym (take-take place (place + 1) mid (omega arith)) ∙ ap (λ (l : List ℕ). take place l) w.before ∙ take-take place (place + 1) bytes (omega arith)

    -- whichever byte the gate is
    at_gate : (c : List ℕ) → take place c ≡ take place mid → drop (place + 1) c ≡ drop (place + 1) mid → place < length c → IsWithOrWithout (says bytes) body c
    at_gate c before after long = elim (cases_eq (get_or c place 0) 1) [
      | inl one ↦ inr (says_more bytes _ _ _ place ends.is c body beyond (before ∙ front) long one (after ∙ w.there) some fits ∙ sym (ap (λ s. with_body s body) ends.is))
      | inr shut ↦ inl (says_same bytes _ _ _ place ends.is c (before ∙ front) long shut ∙ sym ends.is)
    ]

    -- the second write leaves the record or doesn't
    pub at_gate_torn : (c : List ℕ) → Torn place 1 mid c → IsWithOrWithout (says bytes) body c
    at_gate_torn c torn = at_gate c torn.before torn.after (omega (arith, torn.no_shorter, w.size))

    -- and no other byte
    bytes_done : (new : List ℕ) → Holds mid place (1 ∷ []) new → new ≡ with_record_at place body bytes
    bytes_done new holds =
        let size : place + 1 + length (frame_of body) ≡ place + 6 + length body = omega (arith, length-frame_of body) in
        holds
        ∙ append_assoc (take place mid) (1 ∷ []) (drop (place + 1) mid)
        ∙ (λ i. front i ++ (1 ∷ w.there i))
        ∙ sym (append_assoc (take place bytes) (1 ∷ frame_of body) beyond)
        ∙ ap (λ (n : ℕ). take place bytes ++ 1 ∷ frame_of body ++ drop n bytes) size

    pub at_gate_done : (new : List ℕ) → Holds mid place (1 ∷ []) new → HasRecord bytes place body new
    at_gate_done new holds =
        let v = written mid place (1 ∷ []) new (omega (arith, w.size)) holds in
        let one : get_or new place 0 ≡ 1 = get_or_place new place ∙ ap (λ (l : List ℕ). get_or l 0 0) v.there in
        let after : drop (place + 1) new ≡ drop (place + 1) mid = sym (drop-drop 1 place new) ∙ ap (λ (l : List ℕ). drop 1 l) v.there in
        let long : place < length new = omega (arith, v.size) in
        let longer = written_length bytes (place + 1) (frame_of body) mid (omega (arith, there)) framed in
        record {
          bytes_is = bytes_done new holds;
          says_is = says_more bytes _ _ _ place ends.is new body beyond (v.before ∙ front) long one (after ∙ w.there) some fits ∙ sym (ap (λ s. with_body s body) ends.is);
          header = header_kept bytes _ _ _ place ends.is new (v.before ∙ front) long;
          length_is = omega (arith, written_length mid place (1 ∷ []) new (omega (arith, w.size)) holds, longer, length-frame_of body, w.size);
        }

-- the two steps of an append, on a host
module _ (file place : ℕ) (body frame : List ℕ) (old : Desk) (ends : EndsAt (old.seen file) place) (some : 0 < length body) (fits : length body < 2 ^ 32) (is_frame : frame ≡ frame_of body) where
  pub first_step : (mid : Desk) → Touches file (Torn (place + 1) (length frame) (old.seen file)) old mid → Touches file (IsWithOrWithout (says (old.seen file)) body) old mid
  first_step mid run = touches_weaken file _ _ old mid run (λ c torn. inl (behind (old.seen file) place body ends some fits c (subst (λ (b : List ℕ). Torn (place + 1) (length b) (old.seen file) c) is_frame torn)))

  module _ (mid : Desk) (holds : Holds (old.seen file) (place + 1) frame (mid.seen file)) where
    mid_holds : Holds (old.seen file) (place + 1) (frame_of body) (mid.seen file)
    mid_holds = subst (λ (b : List ℕ). Holds (old.seen file) (place + 1) b (mid.seen file)) is_frame holds

    pub second_step : (new : Desk) → Touches file (Torn (place + 1) (length frame) (old.seen file)) old mid → Touches file (Torn place 1 (mid.seen file)) mid new → Touches file (IsWithOrWithout (says (old.seen file)) body) old new
    second_step new run more = touches_then file _ _ old mid new (first_step mid run) more (at_gate_torn (old.seen file) place body ends some fits (mid.seen file) mid_holds)

    pub added : (new : List ℕ) → Holds (mid.seen file) place (1 ∷ []) new → HasRecord (old.seen file) place body new
    added new holds = at_gate_done (old.seen file) place body ends some fits (mid.seen file) mid_holds new holds

-- the log ends behind the record
pub ends_behind : (old new body : List ℕ) (place at : ℕ) → EndsAt old place → HasRecord old place body new → at ≡ place + 5 + length body → EndsAt new at
ends_behind old new body place at ends has same = record {
  generation = ends.generation;
  snapshot = ends.snapshot;
  bodies = ends.bodies ++ body ∷ [];
  is = has.says_is ∙ ap (λ (s : LogSays). with_body s body) ends.is ∙ ap (λ (p : ℕ). is_log ends.generation ends.snapshot (ends.bodies ++ body ∷ []) p) (sym same);
}
