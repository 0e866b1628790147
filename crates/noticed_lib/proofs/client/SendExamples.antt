-- Worked examples of sends, made by the definitions: an input of one frame.
use Rattle.std.proofs.Common.{◌≡◌, ℕ, ◌+◌, ◌<◌, List, [], ◌∷◌, ◌++◌, length, length-append, refl, lit<, lit≤, arith}
use Rattle.std.specs.Prelude.{Some, None, codes, decimal}
use Rattle.dsn_outcome.specs.History.{plain}
use Rattle.dsn_outcome.specs.declared.answer.Reply.TheVariants.{Logged}
use Rattle.dsn_frame.specs.bodies.Spoken.{answer_body, answer_bytes, answer_frames_from}
use Rattle.dsn_frame.specs.declared.bodies.spoken.Spoken.TheVariants.{Refused, Reply}
use Rattle.dsn_notes.specs.Notes.{answer_line, answer_lines_from, spoken_words}
use Rattle.noticed_lib.specs.client.Send.{Known, Sends}
use Rattle.noticed_lib.specs.client.SendLaws.{Sees}
use Rattle.noticed_lib.specs.declared.client.send_fault.SendFault.TheVariants.{NotesLost, OutOfTurn, TooMany}

-- a frame of one byte
frame_of_seven : List ℕ
frame_of_seven = 0 ∷ 0 ∷ 0 ∷ 1 ∷ 7 ∷ []

-- the daemon refuses its body by 23, and what it says of place 5
refused_23 : List ℕ
refused_23 = 0 ∷ 0 ∷ 0 ∷ 10 ∷ 1 ∷ 10 ∷ 0 ∷ 0 ∷ 0 ∷ 0 ∷ 0 ∷ 0 ∷ 0 ∷ 23 ∷ []

line_of_refused : List ℕ
line_of_refused = (decimal 0 ++ codes " " ++ (codes "refused " ++ decimal 23) ++ codes "\n") ++ []

place_5 : List ℕ
place_5 = 0 ∷ 0 ∷ 0 ∷ 10 ∷ 1 ∷ 1 ∷ 0 ∷ 0 ∷ 0 ∷ 5 ∷ 0 ∷ 0 ∷ 0 ∷ 0 ∷ []

bytes_of : List ℕ → List ℕ → List ℕ → List ℕ → Known
bytes_of input sent unread lines = record { input = Some input; sent = Some sent; unread = Some unread; lines = Some lines }

-- the frame is sent, and its answer is noted
one_refused : Sends 5 (bytes_of frame_of_seven [] refused_23 []) (bytes_of [] frame_of_seven [] line_of_refused) ((7 ∷ []) ∷ []) (Refused 23 ∷ []) None
unfolding frame_of_seven refused_23 line_of_refused bytes_of answer_body answer_bytes answer_frames_from answer_line answer_lines_from spoken_words
one_refused = record {
  left = bytes_of [] frame_of_seven [] line_of_refused;
  answered = record {
    each = refl;
    legal = ((lit≤ tt, lit≤ tt), tt);
    fit = (record { number_fits = lit< tt; value_fits = lit< tt; serial_fits = tt }, tt);
    read = refl;
    sent = refl;
    got = refl;
    noted = refl;
  };
  ends = ((refl, refl), record { nothing_sent = refl; nothing_got = refl; nothing_noted = refl });
}

some_line : 0 < length (answer_line 0 (Refused 23))
unfolding answer_line
some_line =
    let text = decimal 0 ++ codes " " ++ spoken_words (Refused 23) in
    let long : length (answer_line 0 (Refused 23)) ≡ length text + 1 = length-append text (codes "\n") in
    omega arith

-- the frame is answered, and nothing of the answer's line is written
one_untold : Sends 5 (bytes_of frame_of_seven [] refused_23 []) (bytes_of [] frame_of_seven [] []) [] [] (Some NotesLost)
unfolding frame_of_seven refused_23 bytes_of answer_body answer_bytes answer_frames_from answer_line answer_lines_from spoken_words
one_untold = record {
  left = bytes_of frame_of_seven [] refused_23 [];
  answered = record { each = refl; legal = tt; fit = tt; read = refl; sent = refl; got = refl; noted = refl };
  ends = record {
    answer = Refused 23;
    at_frame = record {
      few = lit< tt;
      bytes = 7 ∷ [];
      read = ((lit≤ tt, lit≤ tt), refl);
      asked = (refl, record { fits = record { number_fits = lit< tt; value_fits = lit< tt; serial_fits = tt }; got = refl });
    };
    part = record { front = []; unsent = answer_line 0 (Refused 23); some = some_line; split = refl; appended = refl };
  };
}

-- no answer is to blame for the line that was lost: the one answer was right, and the client notes none
one_untold_seen : Sees (Refused 23 ∷ []) [] (Some NotesLost)
one_untold_seen = record { first = (Refused 23 ∷ [], refl); blameless = tt; none_left = λ same. cc }

-- if no frame may be sent, the first one is read and not sent
one_too_many : Sends 0 (bytes_of frame_of_seven [] refused_23 []) (bytes_of [] [] refused_23 []) [] [] (Some TooMany)
unfolding frame_of_seven refused_23 bytes_of answer_frames_from answer_lines_from
one_too_many = record {
  left = bytes_of frame_of_seven [] refused_23 [];
  answered = record { each = refl; legal = tt; fit = tt; read = refl; sent = refl; got = refl; noted = refl };
  ends = record {
    all = refl;
    bytes = 7 ∷ [];
    read = ((lit≤ tt, lit≤ tt), refl);
    silent = record { nothing_sent = refl; nothing_got = refl; nothing_noted = refl };
  };
}

-- an answer to place 5 in place of 0: the frame is sent, and nothing is noted
one_out_of_turn : Sends 5 (bytes_of frame_of_seven [] place_5 []) (bytes_of [] frame_of_seven [] []) [] [] (Some OutOfTurn)
unfolding frame_of_seven place_5 bytes_of answer_body answer_bytes answer_frames_from answer_lines_from
one_out_of_turn = record {
  left = bytes_of frame_of_seven [] place_5 [];
  answered = record { each = refl; legal = tt; fit = tt; read = refl; sent = refl; got = refl; noted = refl };
  ends = record {
    at_frame = record {
      few = lit< tt;
      bytes = 7 ∷ [];
      read = ((lit≤ tt, lit≤ tt), refl);
      asked = (
        refl,
        record {
          number = 5;
          answer = Reply (plain (Logged 0));
          is_answer = record { fits = record { number_fits = lit< tt; value_fits = lit< tt; serial_fits = tt }; got = refl };
          apart = λ same. cc;
        },
      );
    };
    nothing_noted = refl;
  };
}
