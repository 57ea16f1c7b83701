-- The fixed phrases of a report (profile), in each language. Where they stand in a column of
-- characters, or in one of bytes, says what prints them.
use Rattle.std.specs.Prelude.{ℕ, List, ◌++◌, codes}
use Rattle.std.specs.Prelude.{encode_utf8_all as utf8}
use Rattle.report_phrases.specs.declared.language.Language.{Language}
use Rattle.report_phrases.specs.declared.language.Language.TheVariants.{English, French, German}
use Rattle.report_phrases.specs.declared.phrase.Phrase.{Phrase}
use Rattle.report_phrases.specs.declared.phrase.Phrase.TheVariants as phrase

-- the phrase in English
abbrev pub english : Phrase → List ℕ
english phrase.Title = codes ": report of the sets of a station\n\n"
english phrase.FieldFile = codes "Field file"
english phrase.SerialNumber = codes "  12 serial number    "
english phrase.InstrumentType = codes "  13 instrument type  "
english phrase.RecordedDate = codes "  17 date             "
english phrase.TimeFormatOne = codes "  18 time format 1    "
english phrase.TimeFormatTwo = codes "  19 time format 2    "
english phrase.AndOthers = codes " and others"
english phrase.ToLast = codes " to "
english phrase.Station = codes "Station"
english phrase.Date = codes "Date"
english phrase.Sets = codes "Sets"
english phrase.Targets = codes "Targets"
english phrase.TwoFaceDirections = codes "Two-face directions"
english phrase.MissingDirections = codes "Missing directions"
english phrase.InSet = codes "in set"
english phrase.LimitOfTwoC = codes "Limit of 2c"
english phrase.LimitOfTwoI = codes "Limit of 2i"
english phrase.LimitOfResiduals = codes "Limit of residuals"
english phrase.Readings =
    codes "\nReadings in gon, mean of both faces counted from the first row of the set,\n"
    ++ codes "2c and 2i in mgon\n\n"
english phrase.ReadingColumns =
    codes "  Set  Target               Face I    Face II         Mean        2c        2i\n"
english phrase.Mean = codes "Mean"
english phrase.HalfOfMean = codes "Half of the mean: collimation and index error"
english phrase.Spread = codes "Spread: the greatest less the least"
english phrase.ZenithAngles = codes "\nZenith angles in gon, mean of both faces\n\n"
english phrase.ZenithColumns = codes "  Set  Target               Face I    Face II         Mean\n"
english phrase.ZenithMeans =
    codes "\nMean of the sets of each target in gon, standard deviation of the mean in mgon\n\n"
english phrase.ZenithMeanColumns =
    codes "  Target            Sets         Mean  Standard deviation\n\n"
english phrase.Directions =
    codes "\nAdjusted directions in gon, by least squares, counted from the first target\n\n"
english phrase.DirectionColumns = codes "  Target              Direction\n\n"
english phrase.Residuals = codes "\nResiduals in mgon: adjusted direction less two-face direction\n"
english phrase.ResidualColumns = codes "\n  Target      Set "
english phrase.AndSet = codes " mgon, set "
english phrase.AndTarget = codes ", target "
english phrase.GreatestResidual = codes "Greatest residual"
english phrase.DegreesOfFreedom = codes "Degrees of freedom"
english phrase.NothingToCompare = codes "0: no angle was measured twice, nothing to compare"
english phrase.SumOfSquares = codes "Sum of squares [vv]"
english phrase.StandardDeviation = codes "Standard deviation"
english phrase.OfOneDirection = codes " mgon, of one two-face direction"
english phrase.OfEachAdjusted = codes " mgon, of each adjusted direction"
english phrase.NotOfAdjusted = codes "left out of adjusted directions: a set lacks a target"
english phrase.PlaceAndDate = codes "Place, date"
english phrase.Signature = codes "Signature"
english phrase.StatedDirections =
    codes "\nStated directions in gon, differences in mgon: stated less adjusted,\n"
    ++ codes "after the best rotation\n\n"
english phrase.StatedColumns =
    codes "  Target                      Stated    Difference    From the median\n\n"
english phrase.Table = codes "Table"
english phrase.LimitOfDifferences = codes "Limit of differences"
english phrase.Comparison = codes "Comparison"
english phrase.Digests = codes "\nSHA-256 digests of what was read, as sha256sum prints them\n\n"

-- the phrase in German
abbrev pub german : Phrase → List ℕ
german phrase.Title = codes ": Satzmessprotokoll einer Station\n\n"
german phrase.FieldFile = codes "Messdatei"
german phrase.SerialNumber = codes "  12 Seriennummer     "
german phrase.InstrumentType = codes "  13 Instrumententyp  "
german phrase.RecordedDate = codes "  17 Datum            "
german phrase.TimeFormatOne = codes "  18 Zeitformat 1     "
german phrase.TimeFormatTwo = codes "  19 Zeitformat 2     "
german phrase.AndOthers = codes " und andere"
german phrase.ToLast = codes " bis "
german phrase.Station = codes "Station"
german phrase.Date = codes "Datum"
german phrase.Sets = utf8 (codes "Sätze")
german phrase.Targets = codes "Ziele"
german phrase.TwoFaceDirections = codes "Richtungsmittel"
german phrase.MissingDirections = codes "Fehlende Richtungen"
german phrase.InSet = codes "in Satz"
german phrase.LimitOfTwoC = codes "Grenzwert 2c"
german phrase.LimitOfTwoI = codes "Grenzwert 2i"
german phrase.LimitOfResiduals = codes "Verbesserungsgrenze"
german phrase.Readings =
    codes "\nAblesungen in gon, Mittel beider Lagen auf erstes Ziel des Satzes reduziert,\n"
    ++ codes "2c und 2i in mgon\n\n"
german phrase.ReadingColumns =
    codes " Satz  Ziel                 Lage I    Lage II       Mittel        2c        2i\n"
german phrase.Mean = codes "Mittel"
german phrase.HalfOfMean = codes "Halbes Mittel: Zielachsfehler und Indexfehler"
german phrase.Spread = codes "Spannweite: Maximum minus Minimum"
german phrase.ZenithAngles = codes "\nZenitwinkel in gon, Mittel beider Lagen\n\n"
german phrase.ZenithColumns = codes " Satz  Ziel                 Lage I    Lage II       Mittel\n"
german phrase.ZenithMeans =
    utf8 (codes "\nMittel der Sätze je Ziel in gon, Standardabweichung des Mittels in mgon\n\n")
german phrase.ZenithMeanColumns =
    utf8 (codes "  Ziel             Sätze       Mittel  Standardabweichung\n\n")
german phrase.Directions =
    codes "\nAusgeglichene Richtungen in gon, kleinste Quadrate, auf erstes Ziel reduziert\n\n"
german phrase.DirectionColumns = codes "  Ziel                 Richtung\n\n"
german phrase.Residuals =
    codes "\nVerbesserungen in mgon: ausgeglichene Richtung minus Richtungsmittel\n"
german phrase.ResidualColumns = codes "\n  Ziel       Satz "
german phrase.AndSet = codes " mgon, Satz "
german phrase.AndTarget = codes ", Ziel "
german phrase.GreatestResidual = utf8 (codes "Größte Verbesserung")
german phrase.DegreesOfFreedom = codes "Freiheitsgrade"
german phrase.NothingToCompare = codes "0: kein Winkel zweimal gemessen, nichts zu vergleichen"
german phrase.SumOfSquares = codes "Quadratsumme [vv]"
german phrase.StandardDeviation = codes "Standardabweichung"
german phrase.OfOneDirection = codes " mgon, einer in zwei Lagen beobachteten Richtung"
german phrase.OfEachAdjusted = codes " mgon, jeder ausgeglichenen Richtung"
german phrase.NotOfAdjusted = utf8 (codes "entfällt für ausgeglichene Richtungen: Ziele fehlen")
german phrase.PlaceAndDate = codes "Ort, Datum"
german phrase.Signature = codes "Unterschrift"
german phrase.StatedDirections =
    codes "\nTabelle in gon, Abweichungen in mgon: Tabelle minus Ausgleichung,\n"
    ++ codes "nach der besten Verdrehung\n\n"
german phrase.StatedColumns =
    codes "  Ziel                       Tabelle    Abweichung         Vom Median\n\n"
german phrase.Table = codes "Tabelle"
german phrase.LimitOfDifferences = utf8 (codes "Zulässige Abweichung")
german phrase.Comparison = codes "Vergleich"
german phrase.Digests =
    utf8 (codes "\nSHA-256-Prüfsummen des Gelesenen, wie sha256sum sie ausgibt\n\n")

-- the phrase in French
abbrev pub french : Phrase → List ℕ
french phrase.Title = utf8 (codes " : procès-verbal de mesures en séries d'une station\n\n")
french phrase.FieldFile = codes "Fichier de terrain"
french phrase.SerialNumber = utf8 (codes "  12 n° de série      ")
french phrase.InstrumentType = codes "  13 type instrument  "
french phrase.RecordedDate = codes "  17 date             "
french phrase.TimeFormatOne = codes "  18 format d'heure 1 "
french phrase.TimeFormatTwo = codes "  19 format d'heure 2 "
french phrase.AndOthers = codes " et d'autres"
french phrase.ToLast = utf8 (codes " à ")
french phrase.Station = codes "Station"
french phrase.Date = codes "Date"
french phrase.Sets = utf8 (codes "Séries")
french phrase.Targets = utf8 (codes "Points visés")
french phrase.TwoFaceDirections = codes "Directions moyennes"
french phrase.MissingDirections = codes "Directions absentes"
french phrase.InSet = utf8 (codes "dans la série")
french phrase.LimitOfTwoC = codes "Limite de 2c"
french phrase.LimitOfTwoI = codes "Limite de 2i"
french phrase.LimitOfResiduals = utf8 (codes "Limite des résidus")
french phrase.Readings =
    utf8 (codes "\nLectures en gon, moyenne CG/CD réduite au premier point visé de la série,\n")
    ++ utf8 (codes "2c et 2i en mgon\n\n")
french phrase.ReadingColumns =
    utf8 (codes " Sér.  Point visé               CG         CD      Moyenne        2c        2i\n")
french phrase.Mean = codes "Moyenne"
french phrase.HalfOfMean = codes "Demi-moyenne : erreurs de collimation et d'index"
french phrase.Spread = codes "Amplitude : maximum moins minimum"
french phrase.ZenithAngles = utf8 (codes "\nAngles zénithaux en gon, moyenne CG/CD\n\n")
french phrase.ZenithColumns =
    utf8 (codes " Sér.  Point visé               CG         CD      Moyenne\n")
french phrase.ZenithMeans =
    utf8 (codes "\nMoyenne des séries par point visé en gon, écart-type de la moyenne en mgon\n\n")
french phrase.ZenithMeanColumns =
    utf8 (codes "  Point visé      Séries      Moyenne          Écart-type\n\n")
french phrase.Directions =
    utf8 (codes "\nDirections compensées en gon, moindres carrés, premier point visé à zéro\n\n")
french phrase.DirectionColumns = utf8 (codes "  Point visé          Direction\n\n")
french phrase.Residuals =
    utf8 (codes "\nRésidus en mgon : direction compensée moins direction moyenne\n")
french phrase.ResidualColumns = utf8 (codes "\n  Point visé Sér. ")
french phrase.AndSet = utf8 (codes " mgon, série ")
french phrase.AndTarget = utf8 (codes ", point visé ")
french phrase.GreatestResidual = utf8 (codes "Plus grand résidu")
french phrase.DegreesOfFreedom = utf8 (codes "Degrés de liberté")
french phrase.NothingToCompare = utf8 (codes "0 : aucun angle mesuré deux fois, rien à comparer")
french phrase.SumOfSquares = utf8 (codes "Somme des carrés [vv]")
french phrase.StandardDeviation = utf8 (codes "Écart-type")
french phrase.OfOneDirection = codes " mgon, d'une direction moyenne CG/CD"
french phrase.OfEachAdjusted = utf8 (codes " mgon, de chaque direction compensée")
french phrase.NotOfAdjusted = utf8 (codes "omis pour les directions compensées : série incomplète")
french phrase.PlaceAndDate = codes "Lieu, date"
french phrase.Signature = codes "Signature"
french phrase.StatedDirections =
    utf8 (codes "\nDirections de la table en gon, écarts en mgon : table moins compensation,\n")
    ++ utf8 (codes "après la meilleure rotation\n\n")
french phrase.StatedColumns =
    utf8 (codes "  Point visé                   Table         Écart      De la médiane\n\n")
french phrase.Table = codes "Table"
french phrase.LimitOfDifferences = utf8 (codes "Limite des écarts")
french phrase.Comparison = codes "Comparaison"
french phrase.Digests =
    utf8 (codes "\nEmpreintes SHA-256 de ce qui a été lu, comme les écrit sha256sum\n\n")

-- The phrase in a language.
abbrev pub said : Language → Phrase → List ℕ
said English phrase = english phrase
said German phrase = german phrase
said French phrase = french phrase
