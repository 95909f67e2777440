-- A refusal as it is printed.
use Rattle.std.specs.Prelude.{ℕ, List, ◌++◌, codes, decimal}
use Rattle.refusal.specs.declared.Layer.{Layer}
use Rattle.refusal.specs.declared.Layer.TheVariants.{Kind, Network, House}
use Rattle.refusal.specs.declared.Place.{Place}
use Rattle.refusal.specs.declared.Place.TheVariants.{Zero, Waiting, Entry}
use Rattle.refusal.specs.declared.Refusal.{Refusal}

abbrev pub layer_text : Layer → List ℕ
layer_text Kind = codes "kind"
layer_text Network = codes "network"
layer_text House = codes "house"

abbrev pub place_text : Place → List ℕ
place_text Zero = codes "0"
place_text (Waiting at) = decimal at
place_text (Entry board block) = codes "board " ++ (decimal board ++ (codes ", block " ++ decimal block))

abbrev pub refusal_text : Refusal → List ℕ
refusal_text r = codes "layer " ++ (layer_text r.layer ++ (codes ", number " ++ (decimal r.number ++ (codes ", place " ++ place_text r.place))))
