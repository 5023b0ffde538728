-- How the reading of a log goes on.
use Rattle.std.proofs.Common.{◌≡◌, ℕ, ◌+◌, ◌<◌, List, [], ◌∷◌, ◌++◌, length, sym, ◌∙◌, ap, arith, append_assoc}
use Rattle.gate_log.specs.Format.{Records, LogSays, records_at, joined, log_of}
use Rattle.gate_log.specs.Log.{Mark, Describes, snapshot_in, HasNext}
use Rattle.gate_log.specs.Reading.{HasBody}

-- a body more at the end of those before
joined_more : (bodies : List (List ℕ)) (body : List ℕ) (more : Records) → joined bodies (joined (body ∷ []) more) ≡ joined (bodies ++ body ∷ []) more
joined_more bodies body more = ap (λ (bs : List (List ℕ)). record { bodies = bs; is_whole = more.is_whole; place = more.place }) (sym (append_assoc bodies (body ∷ []) more.bodies))

module _ (bytes : List ℕ) (log : Mark) where
  -- what the bodies before the place and the records from there on make
  abbrev whole : Records → LogSays
  whole records = log_of log.generation (snapshot_in log bytes) records

  pub next_read : (size next : ℕ) (body : List ℕ) → next ≡ log.place + 5 + size → Describes log bytes → HasBody bytes log.place size body → HasNext bytes log (record log { place = next }) body
  next_read size next body same describes has =
      let moved : records_at bytes (log.place + 5 + size) ≡ records_at bytes next = ap (λ (k : ℕ). records_at bytes k) (sym same) in
      let here : records_at bytes log.place ≡ joined (body ∷ []) (records_at bytes next) = has.here ∙ ap (λ (r : Records). joined (body ∷ []) r) moved in
      let described : Describes (record log { place = next }) bytes = record { header = describes.header; length_is = describes.length_is; there = there_at } in
      record {
        here = here;
        place_is = omega (arith, same, has.size_is);
        describes = described;
        read = λ bodies before. record {
          describes = described;
          is = before.is ∙ ap (λ (r : Records). whole (joined bodies r)) here ∙ ap whole (joined_more bodies body (records_at bytes next));
        };
      }
    where
      there_at : next < length bytes
      there_at = omega (arith, has.inside)
