-- How the parts of a text that a writer took add up, where what it holds is known.
use Rattle.std.proofs.Common.{◌≡◌, ◌+◌, ◌-◌, ◌∙◌, ℕ, List, [], ◌++◌, length, take, drop, Option, Result, Ok, Err, refl, sym, ap, arith, append_assoc}
use Rattle.std.specs.Prelude.{OnOk, OnErr}
use Rattle.std.specs.Io.KnownBytes.{Appends, Keeps}
use Rattle.std.proofs.KnownBytes.{Appends-nil, Appends-trans, Appends-kept}
use Rattle.std.proofs.lemmas.List.{append-nil, drop-take, take-append-drop, take-take, take_all, length-drop}
use Rattle.pf_stream.specs.Written.{TookAllBut, TookFront}

-- a part of a text, and the part after it
take-next : (at n : ℕ) (text : List ℕ) → take at text ++ take n (drop at text) ≡ take (at + n) text
take-next at n text =
    let front = take-append-drop at (take (at + n) text) in
    let same : take at (take (at + n) text) ≡ take at text = take-take at (at + n) text (omega arith) in
    rw (same, drop-take at n text) at front

-- one write of the rest of a text
pub appends-next : (old mid new : Option (List ℕ)) (at n : ℕ) (text : List ℕ)
    → Appends old mid (take at text) → Appends mid new (take n (take (length text - at) (drop at text))) → Appends old new (take (at + n) text)
appends-next old mid new at n text h k =
    let rest : take (length text - at) (drop at text) ≡ drop at text = take_all (length text - at) (drop at text) (omega (arith, length-drop at text)) in
    rw (← take-next at n text) (Appends-trans old mid new (take at text) (take n (drop at text)) h (rw rest at k))

-- the front of a text that was taken when a write failed
pub took-part : (old mid new : Option (List ℕ)) (at : ℕ) (text : List ℕ) → Appends old mid (take at text) → Keeps mid new → TookFront old new text
took-part old mid new at text h k = (drop at text, (take at text, Appends-kept old mid new (take at text) h k, take-append-drop at text))

pub took-nothing : (old mid new : Option (List ℕ)) (at : ℕ) (text : List ℕ) → Appends old mid (take at text) → Appends mid new [] → TookFront old new text
took-nothing old mid new at text h k =
    (drop at text, (take at text, rw append-nil at (Appends-trans old mid new (take at text) [] h k), take-append-drop at text))

-- a text was taken in part, and a second one was to follow
pub took-before : (old new : Option (List ℕ)) (text more : List ℕ) → TookFront old new text → TookFront old new (text ++ more)
took-before old new text more h =
    let (rest, took) = h in
    (rest ++ more, (took.0, took.1, sym (append_assoc took.0 rest more) ∙ ap (λ t. t ++ more) took.2))

-- a text was taken, and a second one in part
pub took-after : (old mid new : Option (List ℕ)) (text more : List ℕ) → Appends old mid text → TookFront mid new more → TookFront old new (text ++ more)
took-after old mid new text more h k =
    let (rest, took) = k in
    (rest, (text ++ took.0, Appends-trans old mid new text took.0 h took.1, append_assoc text took.0 rest ∙ ap (λ t. text ++ t) took.2))

-- a text was taken, and a second one too
pub took-both : (old mid new : Option (List ℕ)) (text more : List ℕ) → Appends old mid text → Appends mid new more → TookAllBut [] old new (text ++ more)
took-both old mid new text more h k = (text ++ more, Appends-trans old mid new text more h k, append-nil (text ++ more))

-- the first one in part, where its writing failed
pub err-before : {A E : Type 0} (r : Result A E) (old new : Option (List ℕ)) (text more : List ℕ) → TookFront old new text
    → OnErr r (TookFront old new (text ++ more))
err-before (Ok x) old new text more h = tt
err-before (Err e) old new text more h = took-before old new text more h

-- the second one, as its writing went
pub ok-after : {A E : Type 0} (r : Result A E) (old mid new : Option (List ℕ)) (text more : List ℕ) → Appends old mid text
    → OnOk r (Appends mid new more) → OnOk r (TookAllBut [] old new (text ++ more))
ok-after (Ok x) old mid new text more h k = took-both old mid new text more h k
ok-after (Err e) old mid new text more h k = k

pub err-after : {A E : Type 0} (r : Result A E) (old mid new : Option (List ℕ)) (text more : List ℕ) → Appends old mid text
    → OnErr r (TookFront mid new more) → OnErr r (TookFront old new (text ++ more))
err-after (Ok x) old mid new text more h k = k
err-after (Err e) old mid new text more h k = took-after old mid new text more h k

-- Of a text so far the front is written and the rest is written then.
pub so-far-finished : (start old new : Option (List ℕ)) (was text : List ℕ) → TookAllBut was start old text → Appends old new was → Appends start new text
so-far-finished start old new was text h k = rw (← h.2) (Appends-trans start old new h.0 was h.1 k)

-- a text is still to come, in whole
pub all_to_come : (x : Option (List ℕ)) (text : List ℕ) → TookAllBut text x x text
all_to_come x text = ([], Appends-nil x, refl)

pub none_written : (x : Option (List ℕ)) (text : List ℕ) → TookFront x x text
none_written x text = (text, all_to_come x text)

-- Of a whole text some waits, some is put next, and the rest comes then.
pub on_the_way : (start mid new : Option (List ℕ)) (was waiting more rest whole : List ℕ) → TookAllBut (was ++ (more ++ rest)) start mid whole
    → TookAllBut waiting mid new (was ++ more) → TookAllBut (waiting ++ rest) start new whole
on_the_way start mid new was waiting more rest whole h k = (
  h.0 ++ k.0,
  Appends-trans start mid new h.0 k.0 h.1 k.1,
  append_assoc h.0 k.0 (waiting ++ rest)
      ∙ ap (λ t. h.0 ++ t) (sym (append_assoc k.0 waiting rest) ∙ ap (λ t. t ++ rest) k.2 ∙ append_assoc was more rest) ∙ h.2,
)

pub stopped_on_the_way : (start mid new : Option (List ℕ)) (was more rest whole : List ℕ) → TookAllBut (was ++ (more ++ rest)) start mid whole
    → TookFront mid new (was ++ more) → TookFront start new whole
stopped_on_the_way start mid new was more rest whole h k = (k.0 ++ rest, on_the_way start mid new was k.0 more rest whole h k.1)

-- Of a whole text some was taken, and a piece is written next.
pub piece_written : (start mid new : Option (List ℕ)) (left piece rest whole : List ℕ) → left ≡ piece ++ rest → TookAllBut left start mid whole
    → Appends mid new piece → TookAllBut rest start new whole
piece_written start mid new left piece rest whole is h k =
    on_the_way start mid new [] [] piece rest whole (rw is at h) (piece, k, append-nil piece)

pub piece_stopped : (start mid new : Option (List ℕ)) (left piece rest whole : List ℕ) → left ≡ piece ++ rest → TookAllBut left start mid whole
    → TookFront mid new piece → TookFront start new whole
piece_stopped start mid new left piece rest whole is h k = stopped_on_the_way start mid new [] piece rest whole (rw is at h) k

-- nothing is left
pub all_written : (start new : Option (List ℕ)) (left whole : List ℕ) → left ≡ [] → TookAllBut left start new whole → Appends start new whole
all_written start new left whole none h = so-far-finished start new new left whole h (rw none (Appends-nil new))
