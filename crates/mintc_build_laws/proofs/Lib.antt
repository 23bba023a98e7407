mod SoundLaws
