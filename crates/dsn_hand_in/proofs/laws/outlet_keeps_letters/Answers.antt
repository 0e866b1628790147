use Rattle.dsn_hand_in.proofs.PlacesLemmas.{have_places}
use Rattle.dsn_hand_in.proofs.laws.outlet_keeps_letters.Goals as goal

pub returns : goal.returns
returns g c mark start now letters deeds unused course =
    have_places g.S.Source g.S.Drain g.C.Connect.gives g.K.RefusedLetters.keeps g.M.Marks mark start unused
    c.letters_keep_their_places.ensures.places letters deeds now course
