mod OptimumLaws
